use Rattle.std.proofs.Common.{◌≡◌, ℕ, ◌++◌, List, [], map, get_or, sym, subst, ap, ◌∙◌, arith}
use Rattle.std.proofs.lemmas.List.{take_all}
use denote.Ref.{Bor}
use Rattle.graphs.specs.declared.uses.Uses.{Uses}
use Rattle.graphs.specs.NamesByPlace.{texts}
use Rattle.graphs.specs.Uses.{uses_of, AreUses}
use Rattle.graphs.proofs.lemmas.TallyLaws.{uses_more, uses_of_all, texts_of_three}
use Rattle.graphs.proofs.uses.count_uses.Goals as goal

pub loop-name-preserved : goal.loop-name-preserved
loop-name-preserved c =
    let made = texts c.args.made.now in
    let read = texts c.args.read.now in
    let written = texts c.args.written.now in
    let names = c.as_slice-name-items.result.now in
    let i = c.loop-name.name-index in
    let d : Bor (List ℕ) = record { ref_ptr = (0, 0); now = [] } in
    let x = (get_or names i d).now in
    let u : Uses = record {
      made = c.count_of.result;
      read =
          c.count_of-in-loop-name.result;
      written = c.count_of-in-loop-name-2.result;
    } in
    let m = c.count_of.ensures ∙ c.in_ok-makes.ensures x in
    let r = c.count_of-in-loop-name.ensures ∙ c.in_ok-reads.ensures x in
    let w = c.count_of-in-loop-name-2.ensures ∙ c.in_ok-writes.ensures x in
    let is : u ≡ uses_of made read written x = cc in
    uses_more names i d c.loop-name-test.true
    (uses_of made read written) c.loop-name.uses.items c.push.new.self.items u
    c.loop-name.invariant c.in_ok-push.ensures.items is

pub returns : goal.returns
returns c =
    let made = c.args.made.now in
    let read = c.args.read.now in
    let written = c.args.written.now in
    let f = uses_of (texts made) (texts read) (texts written) in
    let names = c.as_slice-name-items.result.now in
    let all : names ≡ made ++ read ++ written = c.as_slice-name-items.ensures.value
    ∙ c.in_ok-names.ensures in
    let e : c.loop-name.uses.items ≡ map f (texts made ++ texts read ++ texts written) =
    c.loop-name.invariant ∙ ap (λ ns. map f (texts ns))
    (take_all c.loop-name.name-index names (omega arith) ∙ all)
    ∙ ap (map f) (texts_of_three made read written) in
    subst (λ us. AreUses (texts made) (texts read) (texts written) us) (sym e)
    (uses_of_all (texts made) (texts read) (texts written))
