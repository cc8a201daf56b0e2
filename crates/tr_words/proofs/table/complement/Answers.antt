use Rattle.std.proofs.Common.{◌≡◌, ◌++◌, ◌∷◌, [], List, ℕ, Bool, cond, not, false, get_or, ap, ◌∙◌}
use Rattle.std.proofs.Common.{arith}
use Rattle.tr_words.specs.Tables.{complement, is_among}
use Rattle.tr_words.proofs.lemmas.ExpansionLaws.{passing, passing_all, passing_goes_on}
use Rattle.tr_words.proofs.TableLaws.{entry_is}
use Rattle.tr_words.proofs.table.complement.Goals as goal

pub loop-index-init : goal.loop-index-init
loop-index-init c =
    let p = λ (x : ℕ). not (is_among x c.args.bytes.now) in
    ap (λ (x : List ℕ). x ++ passing p 0) c.new-others.ensures.items ∙ passing_all p

pub loop-index-preserved : goal.loop-index-preserved
loop-index-preserved c =
    let p = λ (x : ℕ). not (is_among x c.args.bytes.now) in
    let i = c.loop-index.index in
    let here : get_or c.set_of-set.result i false ≡ is_among i c.args.bytes.now =
    ap (λ (s : List Bool). get_or s i false) c.set_of-set.ensures
    ∙ entry_is (λ x. is_among x c.args.bytes.now) i false (omega arith) in
    passing_goes_on p i c.loop-index.others.items c.add_if.new.bytes.items
    (complement c.args.bytes.now) (omega arith) (c.in_ok-add_if.ensures
    ∙ ap (λ (b : Bool). c.loop-index.others.items ++ cond (not b) (i ∷ []) []) here)
    c.loop-index.invariant
