use Rattle.std.proofs.Common.{List, ℕ, ap, arith}
use Rattle.std.specs.Prelude.{replicate}
use Rattle.machine.specs.Lines.{content}
use Rattle.pair_filters.proofs.lemmas.KeyLaws.{kept_content, kept_ended, key_begins, key_short}
use Rattle.pair_filters.proofs.lemmas.KeyLaws.{no_key}
use Rattle.pair_filters.proofs.begun.Begun.begin.Goals as goal

pub overflow_sub-self : goal.overflow_sub-self
overflow_sub-self c = key_short c.args.self.now.rules c.args.line.now c.key.result.now c.key.ensures

pub invariant_of-self : goal.invariant_of-self
invariant_of-self c =
    let kept = c.keep-is_kept.new.kept.items in
    record {
      ended = λ h. kept_ended c.args.line.now kept c.if-is_kept.ensures;
      right = key_begins c.args.self.now.rules c.args.line.now c.key.result.now
          (content kept) c.key.ensures (kept_content c.args.line.now kept c.if-is_kept.ensures);
    }

pub returns-then-is_kept-clause-ok : goal.returns-then-is_kept-clause-ok
returns-then-is_kept-clause-ok c =
    ap (λ (x : List ℕ). replicate c.args.count x)
    (kept_content c.args.line.now c.keep-is_kept.new.kept.items c.if-is_kept.ensures)

pub invariant_of-self-else-is_kept : goal.invariant_of-self-else-is_kept
invariant_of-self-else-is_kept c =
    let kept = c.keep-is_kept.new.kept.items in
    record {
      ended = λ h. absurd (omega (arith, h));
      right =
          no_key c.args.self.now.rules (content kept) (ap content c.if-is_kept.ensures);
    }
