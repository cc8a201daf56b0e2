use Rattle.std.proofs.Common.{◌++◌, ◌∷◌, [], Bool, cond, ap, arith, ◌∙◌, List, ℕ}
use Rattle.tr_words.specs.Classes.{is_in, members}
use Rattle.tr_words.proofs.lemmas.ExpansionLaws.{passing_goes_on, passing_ends, passing_all}
use Rattle.tr_words.proofs.expansion.add_class.Goals as goal

pub loop-index-init : goal.loop-index-init
loop-index-init c = ap (λ (x : List ℕ). c.args.bytes.now.items ++ x)
    (passing_all (is_in c.args.class))

pub loop-index-preserved : goal.loop-index-preserved
loop-index-preserved c =
    passing_goes_on (is_in c.args.class) c.loop-index.index c.loop-index.bytes.items
    c.add_if.new.bytes.items (c.args.bytes.now.items ++ members c.args.class) (omega arith)
    (c.in_ok-add_if.ensures
    ∙ ap (λ (b : Bool). c.loop-index.bytes.items ++ cond b (c.loop-index.index ∷ []) [])
    c.is_in.ensures) c.loop-index.invariant

pub returns : goal.returns
returns c = passing_ends (is_in c.args.class) c.loop-index.index c.loop-index.bytes.items
    (c.args.bytes.now.items ++ members c.args.class) (omega arith) c.loop-index.invariant
