-- Why a plan has no text in a form.
use Rattle.std.specs.Prelude.{◌≡◌, ◌⊎◌}
use Rattle.command_line.specs.declared.showing.PlanForm.{PlanForm}
use Rattle.command_line.specs.declared.showing.PlanForm.TheVariants.{Shards}
use Rattle.command_line.specs.declared.showing.ShardsForm.{ShardsForm}
use Rattle.pipeline_text.specs.declared.script.Script.{Script}
use Rattle.planner.specs.Planned.{Planned}
use Rattle.planner.specs.declared.fault.PlanFault.TheVariants as fault
use Rattle.program.specs.declared.ending.Refusal.{Refusal}
use Rattle.program.specs.declared.ending.Refusal.TheVariants as refusal
use Rattle.shards.specs.Shards.{HasNoShards}
use Rattle.shards.specs.declared.fault.ShardsFault.{ShardsFault}

-- memory was refused; or shards are asked for, and the plan of this script has none
abbrev pub LacksText : PlanForm → Script → Planned → Refusal → Type 0
LacksText form script plan why = (why ≡ refusal.Plan fault.NoMemory)
    ⊎ ((shards : ShardsForm) × (form ≡ Shards shards)
    × ((fault : ShardsFault) × (why ≡ refusal.Shards fault) × HasNoShards script plan fault))
