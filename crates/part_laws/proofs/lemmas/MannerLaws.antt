-- Each filter goes in the manner of its utility.
use Rattle.commands.specs.declared.spec.FilterSpec.TheVariants as spec
use Rattle.part_laws.specs.Laws.{EachGoesInItsManner}
use Rattle.part_laws.proofs.lemmas.ByteLaws.{cat_by_bytes, tee_by_bytes}
use Rattle.part_laws.proofs.lemmas.HeadLaws.{head_goes}
use Rattle.part_laws.proofs.lemmas.LineLaws.{cut_by_lines, fold_by_lines}
use Rattle.part_laws.proofs.lemmas.TailLaws.{tail_goes}
use Rattle.part_laws.proofs.lemmas.TrManner.{tr_in_its_manner}
use Rattle.part_laws.proofs.lemmas.UniqLaws.{uniq_goes}
use Rattle.part_laws.proofs.lemmas.WcLaws.{wc_goes}

pub each_goes : EachGoesInItsManner
each_goes (spec.Cat s) = cat_by_bytes s
each_goes (spec.Cut s) = cut_by_lines s
each_goes (spec.Fold s) = fold_by_lines s
each_goes (spec.Head s) = head_goes s
each_goes (spec.Paste s) = tt
each_goes (spec.Tail s) = tail_goes s
each_goes (spec.Tee s) = tee_by_bytes s
each_goes (spec.Tr s) = tr_in_its_manner s
each_goes (spec.Uniq s) = uniq_goes s
each_goes (spec.Wc s) = wc_goes s
