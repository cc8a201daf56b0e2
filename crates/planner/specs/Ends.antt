-- The inputs and branches of all stages, and which of them a pipe joins: a branch that is written
-- and an input that is used (POSIX.1-2017 XCU 2.9.2). A FIFO and a `|` join in one way.
use Rattle.std.specs.Prelude.{ℕ, ◌==◌, not, Bool, true, false, List, map}
use Rattle.std.specs.List.{list_any, flat_map, filter, enumerate_from}
use Rattle.planner.specs.declared.place.Channel.{Channel}
use Rattle.planner.specs.declared.place.Channel.TheVariants.{Fifo, Bar}
use Rattle.planner.specs.declared.place.Place.{Place}
use Rattle.planner.specs.declared.place.Place.TheVariants as place
use Rattle.planner.specs.declared.place.End.{End}
use Rattle.planner.specs.Places.{Stage, in_places, out_places}

-- an end of a stage, which is an input or a branch, by number
abbrev pub end_at : ℕ → ℕ × Place → End
end_at stage p = record { stage = stage; number = p.0; place = p.1 }

-- those of one stage that have these places
abbrev pub ends_at : (Stage → List Place) → Stage → List End
ends_at places s = map (end_at s.index) (enumerate_from 0 (places s))

-- those of all stages, by stage in script order and then by number
abbrev pub all_ends : (Stage → List Place) → List Stage → List End
all_ends places stages = flat_map (ends_at places) stages

-- the inputs and the branches of all stages
abbrev pub in_ends : List (List ℕ) → List Stage → List End
in_ends fifos stages = all_ends (in_places fifos) stages

abbrev pub out_ends : List (List ℕ) → List Stage → List End
out_ends fifos stages = all_ends (out_places fifos) stages

-- whether a branch is written to what an input reads
abbrev pub is_same : Channel → Channel → Bool
is_same (Fifo k) (Fifo l) = k == l
is_same (Bar k) (Bar l) = k == l
is_same _ _ = false

abbrev pub meets_at : Place → Place → Bool
meets_at (place.Through c) (place.Through d) = is_same c d
meets_at _ _ = false

abbrev pub meets : End → End → Bool
meets o i = meets_at o.place i.place

-- whether some branch is written to what this input reads
abbrev pub is_fed : List End → End → Bool
is_fed outs i = list_any (λ o. meets o i) outs

-- whether a branch goes to a file or to the standard output of the run
abbrev pub is_outside : Place → Bool
is_outside place.Standard = true
is_outside (place.File name append) = true
is_outside _ = false

abbrev pub leaves : End → Bool
leaves o = is_outside o.place

-- the inputs that no stage writes, each of which has a source; the branches that have a sink
abbrev pub unfed : List End → List End → List End
unfed ins outs = filter (λ i. not (is_fed outs i)) ins

abbrev pub leaving : List End → List End
leaving outs = filter leaves outs

-- the stage that writes and the stage that reads, of each pipe between two
abbrev pub pairs_of : List End → End → List (ℕ × ℕ)
pairs_of ins o = map (λ (i : End). (o.stage, i.stage)) (filter (meets o) ins)

abbrev pub stage_pipes : List End → List End → List (ℕ × ℕ)
stage_pipes ins outs = flat_map (pairs_of ins) outs
