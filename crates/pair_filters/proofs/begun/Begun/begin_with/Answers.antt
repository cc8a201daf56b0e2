use Rattle.std.proofs.Common.{Vec, Global, ◌≡◌, ◌-◌, ◌++◌, ◌∷◌, ◌∙◌, [], ℕ, length, ap, arith}
use Rattle.std.proofs.Common.{subst}
use Rattle.machine.specs.Lines.{content, newline}
use Rattle.pair_filters.specs.LineKeys.{IsKeyAt, key_by}
use Rattle.pair_filters.proofs.lemmas.KeyLaws.{kept_content, kept_ended, key_begins, key_short}
use Rattle.pair_filters.proofs.begun.Begun.begin_with.Goals as goal

pub overflow_sub-key_at : goal.overflow_sub-key_at
overflow_sub-key_at c =
    let line = c.args.line.now.items in
    let short = key_short c.args.self.now.rules line c.key.result.now (c.key.ensures
    ∙ ap (key_by c.args.self.now.rules) c.deref.ensures.value) in
    omega (arith, short, c.len.ensures, c.args.line.now.ok)

pub invariant_of-self : goal.invariant_of-self
invariant_of-self c =
    let rules = c.args.self.now.rules in
    let line = c.args.line.now.items in
    let first = c.swap.new.x.items in
    let kept : first ≡ line ++ newline ∷ [] =
    ap (λ (v : Vec ℕ Global). v.items) c.swap.ensures.x_after ∙ c.in_ok-append_byte.ensures in
    let at : length line - length c.key.result.now ≡ c.len.result - length c.key.result.now =
    omega (arith, c.len.ensures, c.args.line.now.ok) in
    record {
      ended = λ h. kept_ended line first kept;
      right = subst (λ (k : ℕ). IsKeyAt rules (content first) k) at
          (key_begins rules line c.key.result.now (content first) (c.key.ensures
          ∙ ap (key_by rules) c.deref.ensures.value) (kept_content line first kept));
    }
