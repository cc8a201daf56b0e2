-- The calls of one kind on files in memory. One of them may be made to fail.
use Rattle.std.specs.Prelude.{◌-◌, ◌^◌, ◌==◌, Bool, false, None}
use Rattle.std.specs.Option.{option_map_or}
use Rattle.collector.specs.Files.{one_more}
use Rattle.file_stores.specs.declared.calls.Calls.{Calls}

-- no call yet, none that fails, and no limit on one but that of a length
abbrev pub no_calls : Calls
no_calls = record { made = 0; failing = None; most = 2 ^ 64 - 1 }

-- the calls, with one more
abbrev pub one_call : Calls → Calls
one_call calls = record calls { made = one_more calls.made }

-- whether the call that comes next is to fail
abbrev pub is_failing : Calls → Bool
is_failing calls = option_map_or (λ k. k == one_more calls.made) calls.failing false
