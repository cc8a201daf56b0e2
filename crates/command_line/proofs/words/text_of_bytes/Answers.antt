use Rattle.std.proofs.Common.{arith, rules}
use Rattle.command_line.proofs.lemmas.Texts.{made_back}
use Rattle.command_line.proofs.words.text_of_bytes.Goals as goal

pub returns-clause-back : goal.returns-clause-back
returns-clause-back c = made_back c.args.bytes.now
    (λ i. omega (arith, c.type_inv.bytes i)) c.collect.result (search rules)
