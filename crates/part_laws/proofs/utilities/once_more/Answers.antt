use Rattle.std.proofs.Common.{ap, arith, cond, sym}
use Rattle.std.specs.Prelude.{Bool}
use Rattle.part_laws.specs.declared.manner.Manner.TheVariants.{Squeezes, Whole}
use Rattle.part_laws.specs.declared.manner.WholeCause.TheVariants as cause
use Rattle.part_laws.proofs.lemmas.Entries.{bytes_all}
use Rattle.part_laws.proofs.utilities.once_more.Goals as goal

pub returns : goal.returns
returns c = sym (ap (λ (b : Bool). cond b (Squeezes c.args.byte) (Whole cause.Squeezes))
    (bytes_all c.args.table.now (λ i. omega (arith, c.type_inv.table i))))
