-- Files in memory whose outputs are held back, and put in place.
use Rattle.std.proofs.Common.{◌≡◌, ℕ, Bool, true, false, List, Option, Some, None, Result, Ok, Err}
use Rattle.std.proofs.Common.{OnOk, OnErr, IsSome, unwrap_or, refl, sym, ap, ◌∙◌, subst}
use Rattle.std.specs.Prelude.{is_some, slice_get, option_and_then, if◌then◌else◌}
use Rattle.std.specs.Option.{option_map}
use Rattle.std.proofs.lemmas.Bool.{false≢true}
use Rattle.collector.specs.Files.{SamePlaces}
use Rattle.collector.specs.Places.{SameCalls, BeginsOutputs, PutsInPlace, LeavesOutputs}
use Rattle.collector.specs.declared.opening.IoFailed.{IoFailed}
use Rattle.collector.proofs.Results.{on_err_of}
use Rattle.run_types.specs.Destinations.{Destination, StandardOutput, FileOf}
use Rattle.run_types.specs.Placings.{is_held}
use Rattle.run_types.specs.declared.placing.Placing.{Placing}
use Rattle.file_stores.specs.inner.Opened.{OpenedOutput, target_at}
use Rattle.file_stores.specs.inner.Memory.{Stored, MemoryShown, content_of, destination_to, held_by}
use Rattle.file_stores.specs.inner.Memory.{shown_files}
use Rattle.file_stores.specs.inner.Former.{former_of, Gets, PutsIn, Puts, LeavesInMemory}

-- ---- what changes nothing that is in place

-- while outputs are held back, what a file holds in its place does not depend on what it holds
in_place_of : (former : Option (List Stored)) (before after : List Stored) (name : List ℕ)
    → is_some former ≡ true → content_of (unwrap_or former after) name
    ≡ content_of (unwrap_or former before) name
in_place_of None before after name held = absurd (false≢true held)
in_place_of (Some files) before after name held = refl

pub same_places : (old new : MemoryShown) → new.former ≡ old.former
    → SamePlaces (shown_files old) (shown_files new)
same_places old new e = record {
  held_back = ap (λ (o : Option (List Stored)). is_some o) e;
  in_place = λ held name. ap (λ (o : Option (List Stored)). content_of
      (unwrap_or o new.contents) name) e
      ∙ in_place_of old.former old.contents new.contents name held;
}

-- ---- outputs are held back from now on

same_calls : (old new : MemoryShown) (contents : List Stored) (former : Option (List Stored))
    → new ≡ record old { contents = contents; former = former }
    → SameCalls (shown_files old) (shown_files new)
same_calls old new contents former e = record {
  openings = ap (λ (m : MemoryShown). m.openings) e;
  inputs = λ k. ap (λ (m : MemoryShown). (shown_files m).inputs k) e;
  outputs = λ k. ap (λ (m : MemoryShown). (shown_files m).outputs k) e;
  targets = λ k. ap (λ (m : MemoryShown). (shown_files m).targets k) e;
  held =
      record {
        standard_input = ap (λ (m : MemoryShown). (shown_files m).standard_input) e;
        held =
            λ k. ap (λ (m : MemoryShown). (shown_files m).held k) e;
        left_out = λ k. ap (λ (m : MemoryShown). (shown_files m).left_out k) e;
      };
}

is_begun : (held : Bool) (files : List Stored) → is_some (if held then Some files else None) ≡ held
is_begun true files = refl
is_begun false files = refl

-- each file holds in its place what it held then
begun_with : (held : Bool) (files : List Stored) (name : List ℕ)
    → content_of (unwrap_or (if held then Some files else None) files) name ≡ content_of files name
begun_with true files name = refl
begun_with false files name = refl

pub begins_outputs : (placing : Placing) (old new : MemoryShown)
    → new ≡ record old { former = former_of placing old.contents }
    → BeginsOutputs placing (shown_files old) (shown_files new)
begins_outputs placing old new e = record {
  calls = same_calls old new old.contents (former_of placing old.contents) e;
  failures = ap (λ (m : MemoryShown). m.failures) e;
  contents = λ d. ap (λ (m : MemoryShown). (shown_files m).contents d) e;
  held_back = ap (λ (m : MemoryShown). is_some m.former) e
      ∙ is_begun (is_held placing) old.contents;
  in_place = λ held name. ap (λ (m : MemoryShown). (shown_files m).in_place name) e
      ∙ begun_with (is_held placing) old.contents name;
}

-- ---- an output is put in place

-- the name of the file that an output writes to
name_of : (target : Option (List ℕ)) (name : List ℕ) → destination_to target ≡ FileOf name
    → target ≡ Some name
name_of None name e = absurd (cc)
name_of (Some own) name e = cc

target_named : (o : Option OpenedOutput) (name : List ℕ)
    → option_map (λ (x : OpenedOutput). destination_to x.target) o ≡ Some (FileOf name)
    → option_and_then (λ (x : OpenedOutput). x.target) o ≡ Some name
target_named None name e = absurd (cc)
target_named (Some x) name e = name_of x.target name (cc)

named_target : (o : Option OpenedOutput) (name : List ℕ)
    → option_and_then (λ (x : OpenedOutput). x.target) o ≡ Some name
    → option_map (λ (x : OpenedOutput). destination_to x.target) o ≡ Some (FileOf name)
named_target None name e = absurd (cc)
named_target (Some x) name e = ap (λ (t : Option (List ℕ)). Some (destination_to t)) e

-- outputs are held back if they were
in_held : (name : List ℕ) (content : Option (List ℕ)) (old new : Option (List Stored))
    → PutsIn name content old new → is_some new ≡ is_some old
in_held name content None new p = ap (λ (o : Option (List Stored)). is_some o) p
in_held name content (Some old) None p = absurd p
in_held name content (Some old) (Some new) p = refl

puts_held : (target : Option (List ℕ)) (contents : List Stored) (old new : Option (List Stored))
    → Puts target contents old new → is_some new ≡ is_some old
puts_held None contents old new p = ap (λ (o : Option (List Stored)). is_some o) p
puts_held (Some name) contents old new p = in_held name (content_of contents name) old new p

-- the file of this name has its content in place
in_own : (name content : List ℕ) (old new : Option (List Stored)) (files : List Stored)
    → is_some old ≡ true → PutsIn name (Some content) old new
    → content_of (unwrap_or new files) name ≡ Some content
in_own name content None new files held p = absurd (false≢true held)
in_own name content (Some old) None files held p = absurd p
in_own name content (Some old) (Some new) files held p = p.content

-- every other file holds there what it held
gets_others : (own name : List ℕ) (content : Option (List ℕ)) (old new : List Stored)
    → (own ≡ name → ⊥) → Gets own content old new → content_of new name ≡ content_of old name
gets_others own name None old new ne g = ap (λ (files : List Stored). content_of files name) g
gets_others own name (Some content) old new ne g = g.others name (λ e. ne (sym e))

in_others : (own name : List ℕ) (content : Option (List ℕ)) (old new : Option (List Stored))
    (before after : List Stored) → is_some old ≡ true → (own ≡ name → ⊥)
    → PutsIn own content old new →
    content_of (unwrap_or new after) name ≡ content_of (unwrap_or old before) name
in_others own name content None new before after held ne p = absurd (false≢true held)
in_others own name content (Some old) None before after held ne p = absurd p
in_others own name content (Some old) (Some new) before after held ne p =
    gets_others own name content old new ne p

puts_others : (target : Option (List ℕ)) (name : List ℕ) (contents : List Stored)
    (old new : Option (List Stored)) (before after : List Stored) → is_some old ≡ true
    → (target ≡ Some name → ⊥) → Puts target contents old new →
    content_of (unwrap_or new after) name ≡ content_of (unwrap_or old before) name
puts_others None name contents old new before after held ne p =
    ap (λ (o : Option (List Stored)). content_of (unwrap_or o after) name) p
    ∙ in_place_of old before after name held
puts_others (Some own) name contents old new before after held ne p =
    in_others own name (content_of contents own) old new before after held
    (λ e. ne (ap (λ (l : List ℕ). Some l) e)) p

module _ (file : ℕ) (old new : MemoryShown)
    (p : Puts (target_at old.outputs file) old.contents old.former new.former) where
  placed : is_some old.former ≡ true → (name content : List ℕ)
      → (shown_files old).targets file ≡ Some (FileOf name)
      → content_of old.contents name ≡ Some content → (shown_files new).in_place name ≡ Some content
  placed held name content target is =
      let own : Puts (Some name) old.contents old.former new.former =
      subst (λ (t : Option (List ℕ)). Puts t old.contents old.former new.former)
      (target_named (slice_get old.outputs file) name target) p in
      in_own name content old.former new.former new.contents held
      (subst (λ (o : Option (List ℕ)). PutsIn name o old.former new.former) is own)

  puts_in_place : new ≡ record old { former = new.former }
      → PutsInPlace file (shown_files old) (shown_files new)
  puts_in_place e = record {
    calls = same_calls old new old.contents new.former e;
    failures = ap (λ (m : MemoryShown). m.failures) e;
    contents = λ d. ap (λ (m : MemoryShown). (shown_files m).contents d) e;
    held_back = puts_held (target_at old.outputs file) old.contents old.former new.former p;
    placed = placed;
    others = λ held name ne. puts_others (target_at old.outputs file) name old.contents old.former
        new.former old.contents new.contents held
        (λ t. ne (named_target (slice_get old.outputs file) name t)) p;
  }

-- there is something to put, if the file of the output's name is there
pub is_there : (contents : List Stored) (target : Option (List ℕ)) (name : List ℕ)
    → target ≡ Some name → IsSome (content_of contents name)
    → IsSome (option_and_then (content_of contents) target)
is_there contents target name is there =
    subst (λ (t : Option (List ℕ)). IsSome (option_and_then (content_of contents) t)) (sym is) there

-- what a success leaves
pub puts_in_place_if : (file : ℕ) (old new : MemoryShown) (result : Result (Unit {0}) IoFailed)
    → OnOk result (Puts (target_at old.outputs file) old.contents old.former new.former)
    → OnOk result (new ≡ record old { former = new.former }) →
    OnOk result (PutsInPlace file (shown_files old) (shown_files new))
puts_in_place_if file old new (Ok u) p e = puts_in_place file old new p e
puts_in_place_if file old new (Err x) p e = tt

-- nothing is put in place if no output is held back, so it does not fail
pub unheld_places : (P : Type 0) (result : Result (Unit {0}) IoFailed)
    (former : Option (List Stored)) → OnErr result (IsSome former × P) → is_some former ≡ false
    → OnErr result ⊥
unheld_places P result former needs unheld =
    on_err_of result (λ n. absurd (false≢true (sym unheld ∙ n.0))) needs

-- ---- outputs are left

unheld_is : (former : Option (List Stored)) (files : List Stored) → is_some former ≡ false
    → unwrap_or former files ≡ files
unheld_is None files unheld = refl
unheld_is (Some former) files unheld = absurd (false≢true (sym unheld))

unheld_held : (old : MemoryShown) (d : Destination) → is_some old.former ≡ false
    → held_by (record old { contents = unwrap_or old.former old.contents; former = None }) d
    ≡ held_by old d
unheld_held old StandardOutput unheld = refl
unheld_held old (FileOf name) unheld = ap (λ (files : List Stored). content_of files name)
    (unheld_is old.former old.contents unheld)

pub leaves_outputs : (old new : MemoryShown) → LeavesInMemory old new
    → LeavesOutputs (shown_files old) (shown_files new)
leaves_outputs old new e = record {
  calls = same_calls old new (unwrap_or old.former old.contents) None e;
  failures = ap (λ (m : MemoryShown). m.failures) e;
  held_back = ap (λ (m : MemoryShown). is_some m.former) e;
  standard = ap (λ (m : MemoryShown). (shown_files m).contents StandardOutput) e;
  left = λ held name. ap (λ (m : MemoryShown). (shown_files m).contents (FileOf name)) e;
  unheld = λ unheld d. ap (λ (m : MemoryShown). (shown_files m).contents d) e
      ∙ unheld_held old d unheld;
}
