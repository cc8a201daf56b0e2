use Rattle.std.proofs.Common.{◌≡◌, ◌∙◌, ◌++◌, ◌-◌, [], ap, sym, arith, ℕ, List, true}
use Rattle.std.proofs.lemmas.List.{append-nil}
use Rattle.machine.specs.OneInput.{wants_first}
use Rattle.machine.specs.Pieces.{contents}
use Rattle.machine.proofs.OneInputLaws.{one_input_closes}
use Rattle.line_filters.specs.declared.kept.Kept.{Kept}
use Rattle.line_filters.specs.KeptParts.{kept_bytes}
use Rattle.line_filters.specs.Skips.{skipped, members_in}
use Rattle.line_filters.specs.TailShows.{tail_still}
use Rattle.line_filters.proofs.lemmas.TailLaws.{beginning_ends, end_ends, still_closed}
use Rattle.line_filters.proofs.lemmas.KeptLaws.{few_none}
use Rattle.line_filters.proofs.tail.TailMachine.close.Goals as goal

pub returns-in-Beginning-clause-ok : goal.returns-in-Beginning-clause-ok
returns-in-Beginning-clause-ok c =
    let m = c.args.self.now in
    let held = kept_bytes m.kept.full.items m.kept.last in
    let first = wants_first m.input.closed c.args._input c.requires in
    one_input_closes m.input.closed
    (tail_still m.input.present m.input.closed m.kept.counted m.origin m.left held)
    (tail_still m.input.present true m.kept.counted m.origin m.left held) (λ x. 0)
    (λ x. 0) c.args._input [] c.args.out.now c.args.out.now c.requires
    (sym (append-nil (contents c.args.out.now)))
    (beginning_ends m.input.present m.input.closed m.kept.counted m.origin m.left held
    c.in-Beginning.is c.if-not-self.false (first.0)
    ∙ sym (still_closed m.input.present m.kept.counted m.origin m.left held []))
    (omega arith)

pub returns-in_ok-put_behind-in-End-clause-ok : goal.returns-in_ok-put_behind-in-End-clause-ok
returns-in_ok-put_behind-in-End-clause-ok c =
    let m = c.args.self.now in
    let held = kept_bytes m.kept.full.items m.kept.last in
    let first = wants_first m.input.closed c.args._input c.requires in
    let k = c.replace-kept.new.dest in
    let skip = c.saturating_sub-skip.result in
    let made = skipped m.kept.counted skip held in
    let all : skip ≡ members_in c.replace-kept.result.counted
    (kept_bytes c.replace-kept.result.full.items c.replace-kept.result.last) - m.left =
    omega (arith, c.saturating_sub-skip.ensures, c.members.ensures, c.from.ensures) in
    let skips : skip ≡ members_in m.kept.counted held - m.left = all
    ∙ ap (λ (x : Kept). members_in x.counted (kept_bytes x.full.items x.last) - m.left)
    c.replace-kept.ensures.value in
    let added : contents c.put_behind.new.out ≡ contents c.args.out.now ++ made =
    c.in_ok-put_behind-in-End.ensures.ok
    ∙ ap (λ (x : Kept). contents c.args.out.now ++ skipped x.counted skip
    (kept_bytes x.full.items x.last)) c.replace-kept.ensures.value in
    one_input_closes m.input.closed
    (tail_still m.input.present m.input.closed m.kept.counted m.origin m.left held)
    (tail_still m.input.present true k.counted m.origin m.left (kept_bytes k.full.items k.last))
    (λ x. 0) (λ x. 0) c.args._input made c.args.out.now c.put_behind.new.out c.requires added
    (end_ends m.input.present m.input.closed m.kept.counted m.origin m.left skip held c.in-End.is
    c.if-not-self.false (first.0) skips
    ∙ (sym (append-nil made) ∙ ap (λ (x : List ℕ). made ++ x)
    (sym (still_closed m.input.present k.counted m.origin m.left
    (kept_bytes k.full.items k.last) []))))
    (omega arith)

pub invariant_of-self-in-End : goal.invariant_of-self-in-End
invariant_of-self-in-End c =
    let k = c.replace-kept.new.dest in
    let nothing : kept_bytes k.full.items k.last ≡ [] =
    ap (λ (x : Kept). kept_bytes x.full.items x.last) c.replace-kept.ensures.after
    ∙ c.new.ensures.none in
    record {
      few = λ _. few_none k.counted k.full.items k.last c.args.self.now.left nothing;
      none =
          λ _. nothing;
    }
