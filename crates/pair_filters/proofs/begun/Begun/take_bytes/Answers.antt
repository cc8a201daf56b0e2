use Rattle.std.proofs.Common.{◌++◌, ◌∙◌, List, ℕ, ap, rules, subst, sym, ◌+◌}
use Rattle.std.proofs.lemmas.List.{take_rest}
use Rattle.pair_filters.specs.declared.runs.Rules.{Rules}
use Rattle.pair_filters.specs.UniqSteps.{IsOneTooMany, TakesLine, lines_begun}
use Rattle.pair_filters.proofs.lemmas.WalkedLaws.{BytesWalked, bytes_more, bytes_open}
use Rattle.pair_filters.proofs.lemmas.WalkedLaws.{bytes_too_many}
use Rattle.pair_filters.proofs.begun.Begun.take_bytes.Goals as goal

pub loop-self-preserved : goal.loop-self-preserved
loop-self-preserved c =
    let l = c.loop-self in
    let bytes = c.args.bytes.now in
    let k = c.in-Some.end in
    let t = c.take_line.new in
    let r = c.args.self.now.rules in
    let begun = lines_begun c.args.self.now in
    let line = c.append-in-Some.new.to.items in
    record {
      walked =
          subst (λ (x : List ℕ). BytesWalked r begun
          (lines_begun t.self) c.args.partial.now.items x bytes (k + 1) c.args.made.now t.made)
          (sym c.in_ok-take_line-in-Some.ensures.empty)
          (bytes_more r begun (lines_begun l.self)
          (lines_begun t.self) c.args.partial.now.items l.partial.items line bytes l.at k
          c.args.made.now l.made t.made l.invariant.walked c.in-Some.ensures
          c.in_ok-append-in-Some.ensures
          (subst (λ (r1 : Rules). TakesLine r1 (lines_begun l.self)
          (lines_begun t.self) line l.made t.made) l.invariant.rules
          c.in_ok-take_line-in-Some.ensures.ok));
      rules = c.take_line.ensures.rules ∙ l.invariant.rules;
    }

pub returns-in-None-clause-ok : goal.returns-in-None-clause-ok
returns-in-None-clause-ok c =
    let l = c.loop-self in
    let bytes = c.args.bytes.now in
    bytes_open c.args.self.now.rules (lines_begun c.args.self.now)
    (lines_begun l.self) c.args.partial.now.items l.partial.items c.append.new.to.items bytes
    l.at c.args.made.now l.made l.invariant.walked c.in-None.ensures
    (c.in_ok-append-in-None.ensures
    ∙ ap (λ (x : List ℕ). l.partial.items ++ x) (take_rest bytes l.at))

pub returns-in_err-take_line-in-Some-clause-too_large :
    goal.returns-in_err-take_line-in-Some-clause-too_large
returns-in_err-take_line-in-Some-clause-too_large c =
    λ h.
    let l = c.loop-self in
    let bytes = c.args.bytes.now in
    let k = c.in-Some.end in
    let line = c.append-in-Some.new.to.items in
    bytes_too_many c.args.self.now.rules (lines_begun c.args.self.now)
    (lines_begun l.self) c.args.partial.now.items l.partial.items line bytes l.at k
    c.args.made.now l.made l.invariant.walked c.in-Some.ensures c.in_ok-append-in-Some.ensures
    (subst (λ (r : Rules). IsOneTooMany r (lines_begun l.self) line) l.invariant.rules
    (c.in_err-take_line-in-Some.ensures.too_large (search rules)))
