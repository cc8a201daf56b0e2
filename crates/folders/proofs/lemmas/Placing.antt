-- The whole way of outputs to their places.
use Rattle.std.proofs.Common.{◌≡◌, inl, inr, ⊎_elim, ℕ, length, List, Option, Some, None, sym, ◌∙◌, ap, subst, arith}
use Rattle.std.specs.Prelude.{All}
use Rattle.std.proofs.lemmas.List.{take_all}
use Rattle.std.proofs.lemmas.Option.{slice_get-get_or}
use Rattle.std.specs.Prelude.{slice_get, get_or}
use Rattle.folders.specs.inner.Folder.{View, FolderShown, CountsMoments, Keeps, NamesAreStored, Shows, Looks, Loses, LeavesAlone, ShowsOnly}
use Rattle.folders.specs.inner.Outputs.{IsNoNew, AreApart, ArePlaced, AllFiles, AllKept, AllLast, IsElsewhereOf, IsFront, IsStoppedBy, IsWhole, IsOldOrWhole, LosesNothing, placed}
use Rattle.folders.specs.declared.fault.PlaceFault.{PlaceFault}
use Rattle.folders.specs.declared.fault.PlaceFault.TheVariants.{NotStored, NotRenamed, NamesNotStored}
use Rattle.folders.specs.declared.output.Output.{Output}
use Rattle.folders.proofs.Alone.{alone_seen}
use Rattle.folders.proofs.Lists.{all_at}
use Rattle.folders.proofs.Moments.{goes_on, goes_further, says_less}
use Rattle.folders.proofs.lemmas.Names.{placed_other, placed_whole, placed_gone}

-- what holds of the output of each number holds of all
pub all_from : {X : Type 0} (P : X → Type 0) (xs : List X) → ((i : ℕ) (x : X) → slice_get xs i ≡ Some x → P x) → All P xs
all_from P xs each = λ k d within. each k (get_or xs k d) (slice_get-get_or xs k d within)

pub same_view : {view found : View} → Shows view found → found ≡ view
same_view same = λ i n. same n i

pub are_placed : (os : List Output) (view found : View) → AreApart os → AllFiles os view → found ≡ placed os view → ArePlaced os view found
are_placed os view found apart files is = record {
  files = files;
  whole = all_from (λ o. found o.place ≡ view o.new) os (λ i o at. ap (λ (v : View). v o.place) is ∙ placed_whole os i o view at apart);
  gone = all_from (λ o. found o.new ≡ None) os (λ i o at. ap (λ (v : View). v o.new) is ∙ placed_gone os i o view at apart);
  others = λ n none no_place. ap (λ (v : View). v n) is ∙ placed_other os n view none no_place;
}

-- all of them are a front of them
pub whole_front : (os : List Output) (view found : View) → Shows (placed os view) found → IsFront os view found
whole_front os view found shows =
    (length os, λ n none. shows n ∙ ap (λ (l : List Output). placed l view n) (sym (take_all (length os) os (omega arith))))

-- ---- s0 is before the first store, s1 before the first rename, s2 before the store of the names, and s3 after it

module _ (os : List Output) (s0 s1 : FolderShown) (alone : LeavesAlone (IsNoNew os) s0 s1) where
  pub stored_looks : ShowsOnly (IsFront os s0.seen) s0 s1
  stored_looks = says_less alone.looks (λ found same. (0, λ n none. same n none))

  pub stored_loses : LosesNothing os s0 s1
  stored_loses = record {
    power = λ n none. says_less (alone.power n none) (λ c now. inl now);
    may = λ n c none now. inl (alone.may n c none now);
  }

  module _ (s2 : FolderShown) (keeps : Keeps s0 s1) where
    pub renamed_looks : ShowsOnly (IsFront os s1.seen) s1 s2 → ShowsOnly (IsFront os s0.seen) s0 s2
    renamed_looks more = goes_further stored_looks more
        (λ found front. subst (λ (v : View). IsFront os v found) (same_view keeps.seen) front)

    old_or_whole : (n : List ℕ) (c : Option (List ℕ)) → IsOldOrWhole os s1 n c → IsOldOrWhole os s0 n c
    old_or_whole n c held = ⊎_elim
        (λ was. inl (keeps.may n c was))
        (λ new. inr (subst (λ (v : View). IsWhole os v n c) (same_view keeps.seen) new))
        held

    pub renamed_loses : LosesNothing os s1 s2 → LosesNothing os s0 s2
    renamed_loses more = record {
      power = λ n none. goes_further (stored_loses.power n none) (more.power n none) (λ c held. old_or_whole n c held);
      may = λ n c none now. old_or_whole n c (more.may n c none now);
    }

-- ---- the same without the first stores

module _ (os : List Output) (s1 s2 s3 : FolderShown) (shown : s2.seen ≡ placed os s1.seen) (last : Keeps s2 s3) where
  pub last_shown : s3.seen ≡ placed os s1.seen
  last_shown = same_view last.seen ∙ shown

  pub last_looks : ShowsOnly (IsFront os s1.seen) s1 s2 → Looks (Shows s2.seen) s2 s3 → ShowsOnly (IsFront os s1.seen) s1 s3
  last_looks more looks = goes_on more looks (λ found same. whole_front os s1.seen found (λ n. same n ∙ ap (λ (v : View). v n) shown))

  pub last_loses : LosesNothing os s1 s2 → Loses s2 s3 → LosesNothing os s1 s3
  last_loses more loses = record {
    power = λ n none. goes_on (more.power n none) (loses n) (λ c now. more.may n c none (last.may n c now));
    may = λ n c none now. more.may n c none (last.may n c now);
  }

  pub all_last : AreApart os → AllFiles os s1.seen → AllKept os s1.seen s2 → NamesAreStored s3 → AllLast os s1.seen s3
  all_last apart files kept names = all_from (λ o. (c : Option (List ℕ)) → s3.may_hold o.place c → c ≡ s1.seen o.new) os (λ i o at c now.
      let file = all_at (λ (p : Output). (b : List ℕ) × (s1.seen p.new ≡ Some b)) os i o at files in
      let here : s3.seen o.place ≡ s1.seen o.new = ap (λ (v : View). v o.place) last_shown ∙ placed_whole os i o s1.seen at apart in ⊎_elim
      (λ free. absurd (cc (sym free.0 ∙ here ∙ file.1)))
      (λ entry. entry.2 ∙ sym (all_at (λ (p : Output). (b : List ℕ) → s2.bytes_of p.place b → s1.seen p.new ≡ Some b) os i o at kept entry.0 (last.bytes o.place entry.0 entry.1)))
      (names o.place c now))

-- ---- new files are removed afterwards

module _ (os : List Output) (s0 s1 s2 : FolderShown) (counts : CountsMoments s1) (counts' : CountsMoments s2) (left : LeavesAlone (IsNoNew os) s1 s2) where
  pub left_looks : ShowsOnly (IsFront os s0.seen) s0 s1 → ShowsOnly (IsFront os s0.seen) s0 s2
  left_looks so_far =
      let now = so_far.each s1.seen (counts.counts_seen s0.moment so_far.later) in
      goes_further so_far left.looks (λ found same. (now.0, λ n none. same n none ∙ now.1 n none))

  pub left_loses : LosesNothing os s0 s1 → LosesNothing os s0 s2
  left_loses so_far = record {
    power = λ n none. goes_further (so_far.power n none) (left.power n none) (λ c now. so_far.may n c none now);
    may = λ n c none now. so_far.may n c none (left.may n c none now);
  }

  left_elsewhere : (view : View) → IsElsewhereOf os view s1.seen → IsElsewhereOf os view s2.seen
  left_elsewhere view was = λ n none. alone_seen counts' left n none ∙ was n none

  pub left_stopped : (fault : PlaceFault) (view : View) → IsStoppedBy fault os view s1.seen → IsStoppedBy fault os view s2.seen
  left_stopped (NotStored fault) view was = left_elsewhere view was
  left_stopped (NotRenamed fault) view was = ⊎_elim (λ at. inl (left_elsewhere _ at)) (λ at. inr (left_elsewhere _ at)) was
  left_stopped (NamesNotStored why) view was = left_elsewhere (placed os view) was
