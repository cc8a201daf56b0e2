-- Worked scripts: their graphs, a state in the middle of a run, and a state in which nothing can
-- move.
--
-- The filters are those of POSIX.1-2017 XCU: cat and tee (the bytes of the inputs), tr a-z A-Z,
-- head -n 1, tail
-- -n 1, and paste of two inputs.
use Rattle.std.specs.Prelude.{◌≡◌, ℕ, zero, suc, ◌-◌, ◌&&◌, nat_le, true, false, List, [], ◌∷◌}
use Rattle.std.specs.Prelude.{◌++◌, map, length, take, drop, Some, None, if◌then◌else◌}
use Rattle.std.specs.List.{concat}
use Rattle.machine.specs.Lines.{lines, content}
use Rattle.machine.specs.Whole.{Answer, joined, WholeAnswer}
use Rattle.machine.specs.Law.{Shown}
use Rattle.machine.specs.declared.piece.Item.{Item}
use Rattle.machine.specs.declared.piece.Item.TheVariants.{Bytes}
use Rattle.machine.specs.declared.protocol.Want.TheVariants.{Take}
use Rattle.bounded_pipe.specs.Ends.{Writing, Reading}
use Rattle.bounded_pipe.specs.Names.{PipeName}
use Rattle.graphs.specs.Graph.{Graph, Source, Stage, Sink, IsPlan}
use Rattle.network_laws.specs.Sequential.{Contents, answer, answer_status}
use Rattle.network_laws.specs.State.{Part, OfSource, OfStage, OfSink, Setup, State, IsLawful}
use Rattle.network_laws.specs.Waits.{IsStuck}
use Rattle.network_laws.specs.declared.outcome.Waiting.{Waiting}
use Rattle.network_laws.specs.Outcome.{Run, Stalled, IsTrueOutcome}
use Rattle.network_laws.specs.Start.{new_sink}
use Rattle.splice_tee.specs.declared.branches.Served.TheVariants.{Lacks, Has}
use Rattle.run_types.specs.declared.node_state.NodeState.TheVariants.{Running}

-- a filter that writes this, and no number
abbrev pub writes : List ℕ → Answer
writes out = record { out = out; count = 0 }

-- cat, and tee
abbrev pub copies : WholeAnswer
copies ins = writes (joined ins)

-- tr a-z A-Z
abbrev pub upper_case : ℕ → ℕ
upper_case c = if nat_le 97 c && nat_le c 122 then c - 32 else c

abbrev pub upper_cases : WholeAnswer
upper_cases ins = writes (map upper_case (joined ins))

-- head -n 1
abbrev pub first_line : WholeAnswer
first_line ins = writes (concat (take 1 (lines (joined ins))))

-- tail -n 1
abbrev pub last_line : WholeAnswer
last_line ins = let ls = lines (joined ins) in writes (concat (drop (length ls - 1) ls))

-- the rows of two columns, with a tab between them; a missing line is empty
abbrev pub rows : List (List ℕ) → List (List ℕ) → List ℕ
rows [] [] = []
rows (x ∷ xs) [] = content x ++ 9 ∷ 10 ∷ rows xs []
rows [] (y ∷ ys) = 9 ∷ content y ++ 10 ∷ rows [] ys
rows (x ∷ xs) (y ∷ ys) = content x ++ 9 ∷ content y ++ 10 ∷ rows xs ys

-- paste of two inputs; if one is missing, it writes nothing
abbrev pub pastes : WholeAnswer
pastes (Some xs ∷ Some ys ∷ []) = writes (rows (lines xs) (lines ys))
pastes _ = writes []

-- tr a-z A-Z < in > out
abbrev pub upper_graph : Graph
upper_graph = record {
  nodes = Source false ∷ Stage upper_cases (0 ∷ []) (Some 1 ∷ []) ∷ Sink ∷ [];
  pipes = (0, 1) ∷ (1, 2) ∷ [];
  result = (1, false);
}

-- cat in | head -n 1 > out
abbrev pub head_graph : Graph
head_graph = record {
  nodes = Source false ∷ Stage copies (0 ∷ []) (Some 1 ∷ [])
      ∷ Stage first_line (1 ∷ []) (Some 2 ∷ []) ∷ Sink ∷ [];
  pipes = (0, 1) ∷ (1, 2) ∷ (2, 3) ∷ [];
  result = (2, false);
}

-- mkfifo f; tee f < in | head -n 1 > o1 & cat f > o2
abbrev pub tee_graph : Graph
tee_graph = record {
  nodes = Source false ∷ Stage copies (0 ∷ []) (Some 1 ∷ Some 2 ∷ [])
      ∷ Stage first_line (1 ∷ []) (Some 3 ∷ []) ∷ Stage copies (2 ∷ []) (Some 4 ∷ []) ∷ Sink ∷ Sink
      ∷ [];
  pipes = (0, 1) ∷ (1, 2) ∷ (1, 3) ∷ (2, 4) ∷ (3, 5) ∷ [];
  result = (3, false);
}

-- mkfifo f; tee f < in | tail -n 1 | paste - f > out
abbrev pub stall_graph : Graph
stall_graph = record {
  nodes = Source false ∷ Stage copies (0 ∷ []) (Some 1 ∷ Some 2 ∷ [])
      ∷ Stage last_line (1 ∷ []) (Some 3 ∷ []) ∷ Stage pastes (3 ∷ 2 ∷ []) (Some 4 ∷ []) ∷ Sink
      ∷ [];
  pipes = (0, 1) ∷ (1, 2) ∷ (1, 3) ∷ (2, 3) ∷ (3, 4) ∷ [];
  result = (3, false);
}

-- the one source holds this
abbrev pub only_content : List ℕ → Contents
only_content bytes k = Some bytes

-- The four graphs are plans, and their sequential answers are these: of `ab1\n` the upper case; of
-- `x\ny\nz\n` the first line, and with tee also the whole; of `a\nb\n` the two rows of paste. The
-- exit status is 0.
pub record AreWorkedAnswers : Type 0 where
  pub upper_plan : IsPlan upper_graph
  pub upper : answer upper_graph (only_content (97 ∷ 98 ∷ 49 ∷ 10 ∷ [])) 1 ≡ 65 ∷ 66 ∷ 49 ∷ 10 ∷ []
  pub head_plan : IsPlan head_graph
  pub head : answer head_graph (only_content (120 ∷ 10 ∷ 121 ∷ 10 ∷ 122 ∷ 10 ∷ [])) 2
      ≡ 120 ∷ 10 ∷ []
  pub tee_plan : IsPlan tee_graph
  pub tee_first : answer tee_graph (only_content (120 ∷ 10 ∷ 121 ∷ 10 ∷ 122 ∷ 10 ∷ [])) 3
      ≡ 120 ∷ 10 ∷ []
  pub tee_second : answer tee_graph (only_content (120 ∷ 10 ∷ 121 ∷ 10 ∷ 122 ∷ 10 ∷ [])) 4
      ≡ 120 ∷ 10 ∷ 121 ∷ 10 ∷ 122 ∷ 10 ∷ []
  pub tee_status : answer_status tee_graph (only_content []) ≡ 0
  pub paste_plan : IsPlan stall_graph
  pub paste : answer stall_graph (only_content (97 ∷ 10 ∷ 98 ∷ 10 ∷ [])) 4
      ≡ 98 ∷ 9 ∷ 97 ∷ 10 ∷ 9 ∷ 98 ∷ 10 ∷ []

-- a machine with this many inputs, none of them closed, that wants the first one
abbrev pub wants_first : ℕ → ((ℕ → List ℕ) → List ℕ) → Shown
wants_first inputs rest =
    record {
      inputs = inputs;
      wanted = Take 0;
      closed = λ j. false;
      rest = rest;
      most = λ ys. 0;
    }

-- the two ends of a pipe with this name, of at most 2 bytes, on which this was put and taken
abbrev pub writing_of : PipeName → List Item → Writing
writing_of name items =
    record {
      pipe = name;
      capacity = 1;
      limit = 2;
      put = items;
      free = 0;
      noted = false;
      pending = 0;
      count = 0;
      heard = 0;
    }

abbrev pub reading_of : PipeName → List Item → Reading
reading_of name items =
    record {
      pipe = name;
      taken = items;
      known = [];
      hung_up = false;
      untold = 0;
      told = 0;
    }

-- In the middle of a run of `tr a-z A-Z` on `ab1\n`, with pieces of at most 2 bytes and pipes that
-- hold 1 item: the source has put `ab` and holds `1\n`; the stage has taken `ab` and holds `AB`,
-- which it has still to put.
abbrev pub upper_setup : Setup
upper_setup = record { graph = upper_graph; missing = λ k. false; most = 1; limit = 2; block = 2 }

abbrev pub upper_put : ℕ → List Item
upper_put zero = Bytes (97 ∷ 98 ∷ []) ∷ []
upper_put (suc p) = []

abbrev pub upper_taken : ℕ → List Item
upper_taken zero = Bytes (97 ∷ 98 ∷ []) ∷ []
upper_taken (suc p) = []

abbrev pub upper_part : ℕ → Part
upper_part zero = OfSource (record {
  state = Running;
  read = 97 ∷ 98 ∷ 49 ∷ 10 ∷ [];
  at_end = false;
  held = Some (49 ∷ 10 ∷ []);
})
upper_part (suc zero) = OfStage (record {
  state = Running;
  machine = wants_first 1 (λ ys. map upper_case (ys 0));
  hung_up = false;
  served = Lacks ∷ [];
  front = Some (Bytes (65 ∷ 66 ∷ []));
  owed = [];
})
upper_part (suc (suc k)) = OfSink new_sink

abbrev pub upper_state : (ℕ → PipeName) → State
upper_state names =
    record {
      writing = λ p. writing_of (names p) (upper_put p);
      reading = λ p. reading_of (names p) (upper_taken p);
      part = upper_part;
    }

-- that state is lawful
abbrev pub WorkedRunIsLawful : Type 0
WorkedRunIsLawful = (names : ℕ → PipeName) → IsLawful upper_setup (upper_state names)

-- The stall of `tee f < in | tail -n 1 | paste - f > out` on `a\nb\n`, with pieces of 1 byte and
-- pipes that hold 1 item: the source has put `a`, newline and `b`, and holds the last newline; tee
-- holds the first newline, which the branch to tail has and f lacks; f holds `a`; tail has taken
-- `a` and newline.
abbrev pub stall_setup : Setup
stall_setup = record { graph = stall_graph; missing = λ k. false; most = 1; limit = 2; block = 1 }

abbrev pub stall_put : ℕ → List Item
stall_put zero = Bytes (97 ∷ []) ∷ Bytes (10 ∷ []) ∷ Bytes (98 ∷ []) ∷ []
stall_put (suc zero) = Bytes (97 ∷ []) ∷ Bytes (10 ∷ []) ∷ []
stall_put (suc (suc zero)) = Bytes (97 ∷ []) ∷ []
stall_put (suc (suc (suc p))) = []

abbrev pub stall_taken : ℕ → List Item
stall_taken zero = Bytes (97 ∷ []) ∷ Bytes (10 ∷ []) ∷ []
stall_taken (suc zero) = Bytes (97 ∷ []) ∷ Bytes (10 ∷ []) ∷ []
stall_taken (suc (suc p)) = []

abbrev pub stall_part : ℕ → Part
stall_part zero = OfSource (record {
  state = Running;
  read = 97 ∷ 10 ∷ 98 ∷ 10 ∷ [];
  at_end = false;
  held = Some (10 ∷ []);
})
stall_part (suc zero) = OfStage (record {
  state = Running;
  machine = wants_first 1 (λ ys. ys 0);
  hung_up = false;
  served = Has ∷ Lacks ∷ [];
  front = Some (Bytes (10 ∷ []));
  owed = [];
})
stall_part (suc (suc zero)) = OfStage (record {
  state = Running;
  machine = wants_first 1 (λ ys. (last_line (Some (97 ∷ 10 ∷ ys 0) ∷ [])).out);
  hung_up = false;
  served = Lacks ∷ [];
  front = None;
  owed = [];
})
stall_part (suc (suc (suc zero))) = OfStage (record {
  state = Running;
  machine = wants_first 2 (λ ys. (pastes (Some (ys 0) ∷ Some (ys 1) ∷ [])).out);
  hung_up = false;
  served = Lacks ∷ [];
  front = None;
  owed = [];
})
stall_part (suc (suc (suc (suc k)))) = OfSink new_sink

abbrev pub stall_state : (ℕ → PipeName) → State
stall_state names =
    record {
      writing = λ p. writing_of (names p) (stall_put p);
      reading = λ p. reading_of (names p) (stall_taken p);
      part = stall_part;
    }

-- what that run gave: the source was read to its last byte, and not to the end; nothing was written
abbrev pub stall_read : ℕ → List ℕ
stall_read zero = 97 ∷ 10 ∷ 98 ∷ 10 ∷ []
stall_read (suc k) = []

abbrev pub stall_run : Run
stall_run =
    record {
      read = stall_read;
      at_end = λ k. false;
      written = λ k. [];
      out = λ k. [];
      failures_before = 0;
      failures = 0;
      faults_before = [];
    }

-- the source waits for its full pipe, tee for the full f, and the others for empty pipes
abbrev pub stall_waits : List Waiting
stall_waits =
    record { node = 0; pipe = 0; full = true }
    ∷ record { node = 1; pipe = 2; full = true }
    ∷ record { node = 2; pipe = 1; full = false }
    ∷ record { node = 3; pipe = 3; full = false }
    ∷ record { node = 4; pipe = 4; full = false }
    ∷ []

-- That state is stuck, and the outcome that names these waits is true of the run.
abbrev pub WorkedStallIsTrue : Type 0
WorkedStallIsTrue = (names : ℕ → PipeName)
    → IsStuck stall_setup (stall_state names)
    × IsTrueOutcome stall_setup (λ p. 1) stall_run (Stalled stall_waits)
