-- Files with one log that changed, and several writes in a row.
use Rattle.std.proofs.Common.{◌≡◌, ℕ, ◌+◌, ◌-◌, ◌≤◌, List, [], ◌∷◌, ◌++◌, length, take, drop, Option}
use Rattle.std.proofs.Common.{Some, IsSome, unwrap_or, refl, sym, ap, ◌∙◌, subst, append_assoc}
use Rattle.std.proofs.Common.{append-nil, length-drop, arith}
use Rattle.std.proofs.lemmas.List.{take-append-drop, take_all}
use Rattle.std.proofs.Math.Seq.{take-add}
use Rattle.std.specs.List.{concat}
use mathlib.Core.List.{IsPrefix}
use Rattle.run_types.specs.Destinations.{Destination}
use Rattle.collector.specs.Files.{FilesShown, SameFiles, Grows, SamePlaces, WriteLog, WritesOnly}
use Rattle.collector.specs.Files.{nothing_written, out_of, writes_of}

-- ---- what is in place

pub places_none : (s : FilesShown) → SamePlaces s s
places_none s = record { held_back = refl; in_place = λ held name. refl }

pub places_on : (a b c : FilesShown) → SamePlaces a b → SamePlaces b c → SamePlaces a c
places_on a b c g h = record {
  held_back = h.held_back ∙ g.held_back;
  in_place = λ held name. h.in_place (g.held_back ∙ held) name ∙ g.in_place held name;
}

-- ---- what a destination holds

-- an output that grew by nothing
pub grows_none : (file : ℕ) (a b : FilesShown) → writes_of b file ≡ writes_of a file
    → ((d : Destination) → a.targets file ≡ Some d → b.contents d ≡ a.contents d) → Grows file a b
grows_none file a b log contents = record {
  more = [];
  log = log ∙ sym (append-nil (writes_of a file));
  content = λ d held t was. contents d t
      ∙ (was ∙ ap (λ (l : List ℕ). Some l) (sym (append-nil held)));
}

-- it grew, and again
pub grows_on : (file : ℕ) (a b c : FilesShown) → b.targets file ≡ a.targets file → Grows file a b
    → Grows file b c → Grows file a c
grows_on file a b c targets g h = record {
  more = g.more ++ h.more;
  log = h.log ∙ (ap (λ l. l ++ h.more) g.log ∙ append_assoc (writes_of a file) g.more h.more);
  content = λ d held t was. h.content d (held ++ g.more) (targets ∙ t) (g.content d held t was)
      ∙ ap (λ (l : List ℕ). Some l) (append_assoc held g.more h.more);
}

-- ---- files of which one log changed

-- no log changed
pub writes_none : (file : ℕ) (s : FilesShown) → IsSome (s.outputs file) → WritesOnly file s s
writes_none file s still = record {
  openings = refl;
  still = still;
  grows = grows_none file s s refl (λ d t. refl);
  inputs = λ k. refl;
  outputs = λ k own. refl;
  targets = λ k. refl;
  held = record { standard_input = refl; held = λ k. refl; left_out = λ k. refl };
  others = λ d t. refl;
  places = places_none s;
}

-- one log changed, and again
pub writes_on : (file : ℕ) (a b c : FilesShown) → WritesOnly file a b → WritesOnly file b c
    → WritesOnly file a c
writes_on file a b c h k = record {
  openings = k.openings ∙ h.openings;
  still = k.still;
  grows = grows_on file a b c (h.targets file) h.grows k.grows;
  inputs = λ f. k.inputs f ∙ h.inputs f;
  outputs = λ f own. k.outputs f own ∙ h.outputs f own;
  targets = λ f. k.targets f ∙ h.targets f;
  held =
      let before = h.held in
      let after = k.held in
      record {
        standard_input = after.standard_input
            ∙ before.standard_input;
        held = λ f. after.held f ∙ before.held f;
        left_out = λ f. after.left_out f ∙ before.left_out f;
      };
  others = λ d t. k.others d (λ u. t (sym (h.targets file) ∙ u)) ∙ h.others d t;
  places = places_on a b c h.places k.places;
}

-- the slice from this place on
rest_of : (at : ℕ) (bytes : List ℕ) → take (length bytes - at) (drop at bytes) ≡ drop at bytes
rest_of at bytes = take_all (length bytes - at) (drop at bytes)
    (omega (arith, length-drop at bytes))

-- the first bytes were written, up to this place
pub record WrittenUpTo (file : ℕ) (bytes : List ℕ) (at : ℕ) (first now : FilesShown) : Type 0 where
  pub within : at ≤ length bytes
  pub told : writes_of now file ≡ writes_of first file ++ take at bytes
  pub out : out_of now file ≡ out_of first file
  pub only : WritesOnly file first now
  pub failures : now.failures ≡ first.failures

module _ (file : ℕ) (bytes : List ℕ) (first : FilesShown) where
  pub written_none : IsSome (first.outputs file) → WrittenUpTo file bytes 0 first first
  written_none still = record {
    within = omega arith;
    told = sym (append-nil (writes_of first file));
    out = refl;
    only = writes_none file first still;
    failures = refl;
  }

  -- the first bytes of the rest were written
  pub written_more : (at n : ℕ) (mid now : FilesShown)
      → n ≤ length (take (length bytes - at) (drop at bytes)) → WritesOnly file mid now →
      (writes_of now file ≡ writes_of mid file ++ take n (take (length bytes - at) (drop at bytes)))
      → out_of now file ≡ out_of mid file → now.failures ≡ mid.failures →
      WrittenUpTo file bytes at first mid → WrittenUpTo file bytes (at + n) first now
  written_more at n mid now fits only told out failures w =
      let rest = rest_of at bytes in
      let within : n ≤ length (drop at bytes) = subst (λ (l : List ℕ). n ≤ length l) rest fits in
      record {
        within = omega (arith, within, length-drop at bytes, w.within);
        told = told ∙ (ap (λ l. l ++ take n (take (length bytes - at) (drop at bytes))) w.told
            ∙ (append_assoc (writes_of first file) (take at bytes)
            (take n (take (length bytes - at) (drop at bytes)))
            ∙ ap (λ l. writes_of first file ++ l) (ap (λ l. take at bytes ++ take n l) rest
            ∙ sym (take-add at n bytes))));
        out = out ∙ w.out;
        only = writes_on file first mid now w.only only;
        failures = failures ∙ w.failures;
      }

  -- a write failed: what was written is the first bytes
  pub written_front : (at : ℕ) (mid now : FilesShown) → SameFiles mid now
      → WrittenUpTo file bytes at first mid →
      (front : List ℕ) × IsPrefix front bytes × (writes_of now file ≡ writes_of first file ++ front)
  written_front at mid now same w = (
    take at bytes,
    (drop at bytes, take-append-drop at bytes),
    ap (λ (l : Option WriteLog). (unwrap_or l nothing_written).bytes) (same.outputs file) ∙ w.told,
  )

-- the first pieces were written, and these are left
pub record PiecesWritten (file : ℕ) (pieces left : List (List ℕ)) (first now : FilesShown) :
    Type 0 where
  pub done : List ℕ
  pub split : done ++ concat left ≡ concat pieces
  pub told : writes_of now file ≡ writes_of first file ++ done
  pub out : out_of now file ≡ out_of first file
  pub only : WritesOnly file first now
  pub failures : now.failures ≡ first.failures

module _ (file : ℕ) (pieces : List (List ℕ)) (first : FilesShown) where
  pub no_piece_written : IsSome (first.outputs file) → PiecesWritten file pieces pieces first first
  no_piece_written still = record {
    done = [];
    split = refl;
    told = sym (append-nil (writes_of first file));
    out = refl;
    only = writes_none file first still;
    failures = refl;
  }

  module _ (piece : List ℕ) (left : List (List ℕ)) (mid now : FilesShown)
      (w : PiecesWritten file pieces (piece ∷ left) first mid) where
    -- one piece more was written
    pub piece_written : writes_of now file ≡ writes_of mid file ++ piece
        → out_of now file ≡ out_of mid file → WritesOnly file mid now
        → now.failures ≡ mid.failures → PiecesWritten file pieces left first now
    piece_written told out only failures = record {
      done = w.done ++ piece;
      split = append_assoc w.done piece (concat left) ∙ w.split;
      told = told ∙ (ap (λ l. l ++ piece) w.told ∙ append_assoc (writes_of first file) w.done piece);
      out = out ∙ w.out;
      only = writes_on file first mid now w.only only;
      failures = failures ∙ w.failures;
    }

    -- a write failed: what was written is the first bytes
    pub front_written : (front : List ℕ) → IsPrefix front piece
        → writes_of now file ≡ writes_of mid file ++ front
        → (f : List ℕ) × IsPrefix f (concat pieces)
        × (writes_of now file ≡ writes_of first file ++ f)
    front_written front (rest, is) told = (
      w.done ++ front,
      (
        rest ++ concat left,
        append_assoc w.done front (rest ++ concat left)
            ∙ (ap (λ l. w.done ++ l) (sym (append_assoc front rest (concat left)) ∙ ap (λ l. l ++ concat left) is)
            ∙ w.split),
      ),
      told ∙ (ap (λ l. l ++ front) w.told ∙ append_assoc (writes_of first file) w.done front),
    )
