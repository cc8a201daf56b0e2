use Rattle.std.proofs.Common.{◌∙◌, Option, ℕ, ap, sym}
use Rattle.tr_filter.specs.declared.squeezing.Squeezing.{Squeezing}
use Rattle.tr_filter.specs.Shifts.{changed, squeezed_set}
use Rattle.tr_words.specs.Tr.{last_of, squeezed}
use Rattle.tr_filter.proofs.lemmas.TrFeed.{made_split, squeezed_none, squeezed_same}
use Rattle.tr_filter.proofs.tr.make.Goals as goal

pub returns-in-None-clause-made : goal.returns-in-None-clause-made
returns-in-None-clause-made c =
    let left = changed c.args.way.now.change c.args.bytes.now in
    c.apply-len.ensures.made ∙ (sym (squeezed_none c.args.last left)
    ∙ ap (λ (s : Option Squeezing). squeezed (squeezed_set s) c.args.last left)
    (sym c.in-None.is))

pub returns-in-None-clause-goes_on : goal.returns-in-None-clause-goes_on
returns-in-None-clause-goes_on c ys =
    let way = c.args.way.now in
    let last = c.args.last in
    made_split way last last c.args.bytes.now ys
    (squeezed_same (squeezed_set way.squeezing)
    (last_of last (changed way.change c.args.bytes.now)) last (ap squeezed_set c.in-None.is))

pub returns-in-Some-clause-goes_on : goal.returns-in-Some-clause-goes_on
returns-in-Some-clause-goes_on c ys =
    let way = c.args.way.now in
    let last = c.args.last in
    made_split way last c.squeeze.result.1 c.args.bytes.now ys (λ zs.
    ap (λ (k : Option ℕ). squeezed (squeezed_set way.squeezing) k zs)
    (sym (c.squeeze.ensures.last ∙ ap (last_of last) c.apply-len.ensures.made)))
