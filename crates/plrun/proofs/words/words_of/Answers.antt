use Rattle.plrun.proofs.lemmas.WordLaws.{words_more}
use Rattle.plrun.proofs.words.words_of.Goals as goal

pub loop-number-preserved : goal.loop-number-preserved
loop-number-preserved g c =
    words_more (λ word. word.items) (g.H.HandsWords.words c.args.from.now) c.loop-number.number
    c.loop-number.words.items c.push.new.self.items c.in_ok-bytes.field-0 c.in-Some.bytes
    c.loop-number.invariant c.in_ok-bytes.ensures c.in-Some.is c.in_ok-push.ensures.items
