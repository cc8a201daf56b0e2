-- What is opened for the statistics of a request.
use Rattle.std.proofs.Common.{◌≡◌, ℕ, List, Option, Some, None, Result, Ok, Err}
use Rattle.std.proofs.Common.{inl, inr, subst, sym}
use Rattle.std.specs.Borrow.{Bor}
use Rattle.std.specs.Prelude.{IfErr, OnOk}
use Rattle.command_line.specs.declared.request.Request.{Request}
use Rattle.command_line.specs.declared.request.Request.TheVariants as asks
use Rattle.command_line.specs.declared.request.ScriptFrom.{ScriptFrom}
use Rattle.planner.specs.Planned.{Planned}
use Rattle.program.specs.Reports.{MayOpenReport, MayReport, OpensNoOther, OpensReport, report_of}
use Rattle.program.specs.declared.ran.Ran.{Ran}
use Rattle.program.specs.declared.ran.Refused.{Refused}

of_opened : (to : Option (Bor (List ℕ))) (old new : List (List ℕ)) → OpensReport to old new
    → OpensNoOther to old new
of_opened None old new same = same
of_opened (Some name) old new opens = inr opens

of_refused : (to : Option (Bor (List ℕ))) (script : ScriptFrom) (plan : Option Planned)
    (old new : List (List ℕ)) → MayOpenReport to script plan old new → OpensNoOther to old new
of_refused None script plan old new same = same
of_refused (Some name) script plan old new (inl same) = inl same
of_refused (Some name) script plan old new (inr opens) = inr opens.1

of_request : (request : Request) (plan : Option Planned) (old new : List (List ℕ))
    → MayReport request plan old new → OpensNoOther (report_of request) old new
of_request
    (asks.Run script settings strict placing progress stats stats_to quiet_pipe folder) plan old new
    may = of_refused stats_to script plan old new may
of_request (asks.Help text) plan old new same = same
of_request asks.Version plan old new same = same
of_request (asks.Explain code explanation) plan old new same = same
of_request asks.Codes plan old new same = same
of_request (asks.Plan script form check placing stats_to folder) plan old new same = same

-- nothing but the file that the request names
pub opens_no_other : (request : Request) (old mid new : List (List ℕ)) → new ≡ mid
    → (came_to : Result Ran Refused)
    → OnOk came_to (OpensReport (report_of request) old mid)
    → IfErr came_to (λ refused. MayReport request refused.read.plan old mid)
    → OpensNoOther (report_of request) old new
opens_no_other request old mid new same (Ok ran) opens may =
    subst (OpensNoOther (report_of request) old) (sym same)
    (of_opened (report_of request) old mid opens)
opens_no_other request old mid new same (Err refused) opens may =
    subst (OpensNoOther (report_of request) old) (sym same)
    (of_request request refused.read.plan old mid may)
