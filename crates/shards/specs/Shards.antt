-- A script as two scripts: one that runs on each part of the input, and one that runs on the joined
-- outputs of the first.
--
-- A shell's script gives the same bytes however its input is read (POSIX.1-2017 XCU 1.4, INPUT
-- FILES); in parts it does so only if each of its commands can go on from one part to the next.
use Rattle.std.specs.Prelude.{◌≡◌, ℕ, true, List, [], length, map, Some, None}
use Rattle.std.specs.List.{concat}
use Rattle.commands.specs.declared.spec.FilterSpec.{FilterSpec}
use Rattle.pipeline_text.specs.Grammar.{script_of}
use Rattle.pipeline_text.specs.declared.script.Script.{Script}
use Rattle.planner.specs.Planned.{IsPlanOf, Planned}
use Rattle.run_types.specs.declared.names.InName.{InName}
use Rattle.run_types.specs.declared.names.InName.TheVariants as input
use Rattle.run_types.specs.declared.names.OutName.{OutName}
use Rattle.run_types.specs.declared.names.OutName.TheVariants as output
use Rattle.shards.specs.Chains.{IsChain, output_for, status_for}
use Rattle.part_laws.specs.Divisions.{halves, IsLongest, made_by, needs_whole}
use Rattle.part_laws.specs.Parts.{AreCutAtLines}
use Rattle.shards.specs.declared.fault.ShardsFault.{ShardsFault}
use Rattle.shards.specs.declared.fault.ShardsFault.TheVariants as fault

-- For an input that is cut at ends of lines, a plan's output is that of the second plan for the
-- outputs of the first one for its parts, one after another. The exit status of each is 0.
pub record GivesSameBytes (plan each joined : Planned) : Type 0 where
  pub bytes : (parts : List (List ℕ)) → AreCutAtLines parts
      → output_for plan (concat parts)
      ≡ output_for joined (concat (map (output_for each) parts))
  pub status : (x : List ℕ) → status_for plan x ≡ 0
  pub status_each : (x : List ℕ) → status_for each x ≡ 0
  pub status_joined : (x : List ℕ) → status_for joined x ≡ 0

-- a text is that of a script with this plan
pub record HasPlan (text : List ℕ) (plan : Planned) : Type 0 where
  pub script : Script
  pub script_is : script_of text ≡ Some script
  pub is_plan : IsPlanOf script plan

-- a plan is a chain from this input to this output
abbrev pub LeadsFromTo : Planned → InName → OutName → Type 0
LeadsFromTo plan from to = (filters : List FilterSpec) × IsChain plan from filters to

-- Both plans are the halves of these filters: the first one writes what those write that run on each
-- part, as many as may, and the second one what the others write. Something runs on each part.
pub record DividesFilters (filters : List FilterSpec) (each joined : Planned) : Type 0 where
  pub first : (x : List ℕ) → output_for each x ≡ made_by (halves true filters).each x
  pub later : (x : List ℕ) → output_for joined x ≡ made_by (halves true filters).joined x
  pub longest : IsLongest (halves true filters).each (halves true filters).joined
  pub some : needs_whole filters ≡ None

-- These two texts are the shards of a plan: they are scripts that give the same bytes. Both read
-- the standard input. The first writes the standard output, and the second writes to the plan's
-- output. Together they are the halves of its filters.
pub record AreShards (plan : Planned) (map_text combine_text : List ℕ) : Type 0 where
  pub from : InName
  pub to : OutName
  pub filters : List FilterSpec
  pub chain : IsChain plan from filters to
  pub each : Planned
  pub each_is : HasPlan map_text each
  pub each_leads : LeadsFromTo each input.Standard output.Standard
  pub joined : Planned
  pub joined_is : HasPlan combine_text joined
  pub joined_leads : LeadsFromTo joined input.Standard to
  pub same : GivesSameBytes plan each joined
  pub divided : DividesFilters filters each joined

-- a script is one pipeline, without FIFOs, and its plan is the chain of these filters
pub record IsOnePipeline (script : Script) (plan : Planned) (filters : List FilterSpec) : Type 0
  where
    pub fifos : script.fifos ≡ []
    pub pipelines : length script.pipelines ≡ 1
    pub from : InName
    pub to : OutName
    pub chain : IsChain plan from filters to

-- Why a script has no shards: it is not one pipeline from one input to one output; or nothing of it
-- runs on a part, since its first command needs the whole input. Otherwise its commands could not be written as scripts
-- again, or memory was refused.
abbrev pub HasNoShards : Script → Planned → ShardsFault → Type 0
HasNoShards script plan fault.NotOnePipeline = (filters : List FilterSpec)
    → IsOnePipeline script plan filters → ⊥
HasNoShards script plan (fault.NeedsWholeInput why) = (filters : List FilterSpec)
    × IsOnePipeline script plan filters × (needs_whole filters ≡ Some why)
HasNoShards script plan fault.NotWritten = Unit {0}
HasNoShards script plan fault.NoMemory = Unit {0}
