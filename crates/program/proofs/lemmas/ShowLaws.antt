-- Why a plan has no text in a form, and why it is not printed.
use Rattle.std.proofs.Common.{◌≡◌, ℕ, List, Some, Result, Ok, Err, inl, inr, refl, subst, sym}
use Rattle.std.proofs.Common.{Vec, Global}
use Rattle.std.specs.Prelude.{IfOk, IfErr}
use Rattle.collector.specs.Files.{FilesShown}
use Rattle.command_line.specs.declared.showing.PlanForm.{PlanForm}
use Rattle.command_line.specs.declared.showing.PlanForm.TheVariants.{Shards}
use Rattle.command_line.specs.declared.showing.ShardsForm.{ShardsForm}
use Rattle.pipeline_text.specs.Grammar.{script_of}
use Rattle.pipeline_text.specs.declared.script.Script.{Script}
use Rattle.planner.specs.Planned.{IsPlanOf, Planned}
use Rattle.planner.specs.declared.fault.PlanFault.TheVariants as fault
use Rattle.program.specs.Runs.{IsNoShowing}
use Rattle.program.specs.declared.ending.Refusal.{Refusal}
use Rattle.program.specs.declared.ending.Refusal.TheVariants as refusal
use Rattle.program.specs.inner.Texts.{LacksText}
use Rattle.shards.specs.Shards.{HasNoShards}
use Rattle.shards.specs.declared.fault.ShardsFault.{ShardsFault}

-- what holds of every text holds of a result
pub in_any_case : {E : Type 0} {P : List ℕ → Type 0} (result : Result (Vec ℕ Global) E)
    → ((text : List ℕ) → P text) → IfOk result (λ text. P text.items)
in_any_case (Ok text) holds = holds text.items
in_any_case (Err why) holds = tt

-- a form lacks a text if memory was refused
pub lacks_memory : {T : Type 0} (form : PlanForm) (script : Script) (plan : Planned)
    (result : Result T Refusal)
    → IfErr result (λ why. why ≡ refusal.Plan fault.NoMemory)
    → IfErr result (LacksText form script plan)
lacks_memory form script plan (Ok text) is = tt
lacks_memory form script plan (Err why) is = inl is

-- shards lack a text if there are none
pub lacks_shards : (form : ShardsForm) (script : Script) (plan : Planned) (fault : ShardsFault)
    → HasNoShards script plan fault → LacksText (Shards form) script plan (refusal.Shards fault)
lacks_shards form script plan fault none = inr (form, refl, (fault, refl, none))

-- a text whose plan has no text in a form is not printed
pub unprinted : (form : PlanForm) (text : List ℕ) (script : Script) (plan : Planned)
    (files : FilesShown) (why : Refusal)
    → script_of text ≡ Some script → IsPlanOf script plan → LacksText form script plan why
    → IsNoShowing form text files files why
unprinted form text script plan files why is is_plan (inl refused) =
    subst (IsNoShowing form text files files) (sym refused) (inl (inl (script, is, tt), refl))
unprinted form text script plan files why is is_plan (inr (shards, asked, (fault, refused, none))) =
    inl (
      inr (record {
        shards = shards;
        asked = asked;
        fault = fault;
        refused = refused;
        script =
            script;
        script_is = is;
        plan = plan;
        is_plan = is_plan;
        none = none;
      }),
      refl,
    )
