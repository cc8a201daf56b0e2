-- Calls that leave names alone.
use Rattle.std.proofs.Common.{◌≡◌, ◌≢◌, ℕ, List, refl, ◌∙◌}
use Rattle.folders.specs.inner.Folder.{FolderShown, CountsMoments, Touches, Keeps, IsElsewhere, IsStored, Looks, Loses, LeavesAlone}
use Rattle.folders.proofs.Moments.{started, goes_on, goes_further}

pub keeps_none : (s : FolderShown) → Keeps s s
keeps_none s = record { seen = λ n. refl; may = λ n c now. now; bytes = λ n b now. now }

pub keeps_more : {s0 s s' : FolderShown} → Keeps s0 s → Keeps s s' → Keeps s0 s'
keeps_more so_far more = record {
  seen = λ n. more.seen n ∙ so_far.seen n;
  may = λ n c now. so_far.may n c (more.may n c now);
  bytes = λ n b now. so_far.bytes n b (more.bytes n b now);
}

-- what is stored stays so
pub stored_kept : {s s' : FolderShown} → Keeps s s' → (name : List ℕ) → IsStored name s → IsStored name s'
stored_kept keeps name was = (was.0, keeps.seen name ∙ was.1, λ b now. was.2 b (keeps.bytes name b now))

pub alone_none : (P : List ℕ → Type 0) (s : FolderShown) → CountsMoments s → LeavesAlone P s s
alone_none P s counts = record {
  looks = started (λ found left n p. counts.only_seen found left n);
  power = λ n p. started (λ c left. counts.only_left n c left);
  may = λ n c p now. now;
}

-- what is seen of such a name now
pub alone_seen : {P : List ℕ → Type 0} {s0 s : FolderShown} → CountsMoments s → LeavesAlone P s0 s
    → (n : List ℕ) → P n → s.seen n ≡ s0.seen n
alone_seen {P} {s0} {s} counts alone = alone.looks.each s.seen (counts.counts_seen s0.moment alone.looks.later)

-- one call more, with another name
pub alone_more : {P : List ℕ → Type 0} {s0 s s' : FolderShown} {name : List ℕ} → CountsMoments s
    → LeavesAlone P s0 s → Touches name s s' → Looks (IsElsewhere name s.seen) s s' → Loses s s'
    → ((n : List ℕ) → P n → n ≢ name) → LeavesAlone P s0 s'
alone_more counts alone touches looks loses other = record {
  looks = goes_on alone.looks looks (λ found at n p. at n (other n p) ∙ alone_seen counts alone n p);
  power = λ n p. goes_on (alone.power n p) (loses n) (λ c now. alone.may n c p (touches.may n c (other n p) now));
  may = λ n c p now. alone.may n c p (touches.may n c (other n p) now);
}

-- and a run more
pub alone_further : {P : List ℕ → Type 0} {s0 s s' : FolderShown} → CountsMoments s
    → LeavesAlone P s0 s → LeavesAlone P s s' → LeavesAlone P s0 s'
alone_further counts alone more = record {
  looks = goes_further alone.looks more.looks (λ found at n p. at n p ∙ alone_seen counts alone n p);
  power = λ n p. goes_further (alone.power n p) (more.power n p) (λ c now. alone.may n c p now);
  may = λ n c p now. alone.may n c p (more.may n c p now);
}
