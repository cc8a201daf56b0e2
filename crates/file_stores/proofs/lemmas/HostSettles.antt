-- Outputs of the host of which something is out, or was.
use Rattle.std.proofs.Common.{◌≡◌, ℕ, ◌<◌, inl, inr, List, [], ◌++◌, length, get_or, set, Option}
use Rattle.std.proofs.Common.{Some, IsSome, Result, Ok, Err, OnOk, refl, sym, ap, ◌∙◌, subst}
use Rattle.std.proofs.Common.{append-nil}
use Rattle.std.proofs.lemmas.List.{set-get_or}
use Rattle.collector.specs.Files.{WriteLog, WritesOnly, HandsOver, SettlesAll, SettlesSome, log_of}
use Rattle.collector.specs.Files.{nothing_written, out_of}
use Rattle.waiting_outputs.specs.inner.Outputs.{OutputShown, WritesSome}
use Rattle.file_stores.specs.inner.Host.{HostOutputShown, HostShown, shown_host}
use Rattle.file_stores.proofs.lemmas.HostLaws.{host_writes, log_after, log_before, log_there}
use Rattle.file_stores.proofs.lemmas.HostLaws.{writes_after}
use Rattle.file_stores.proofs.lemmas.Numbers.{log_at}

log_is : (a b : WriteLog) → a.bytes ≡ b.bytes → a.out ≡ b.out → a ≡ b
log_is a b bytes out = ap (λ (l : List ℕ). record { bytes = l; out = a.out }) bytes
    ∙ ap (λ (l : List ℕ). record { bytes = b.bytes; out = l }) out

-- an output that wrote a front of what was out has settled that
pub settles_some : (old new : OutputShown) → WritesSome old new → new.out ≡ []
    → SettlesSome (record { bytes = old.taken; out = old.out })
    (record { bytes = new.taken; out = new.out })
settles_some old new (inl w) none = (w.0, w.1, log_is _ _ w.2.taken none)
settles_some old new (inr w) none =
    ([], (old.out, refl), log_is _ _ (w.0 ∙ sym (append-nil old.taken)) none)

-- an output with such a number is open
pub opened_at : {D : Type 0} (file : ℕ) (held old : HostShown D) → held ≡ old → file < length held.outputs
    → IsSome ((shown_host old).outputs file)
opened_at {D} file held old is h = subst (λ (s : HostShown D). IsSome ((shown_host s).outputs file)) is
    (subst (λ (o : Option WriteLog). IsSome o)
    (sym (log_at (λ (o : HostOutputShown). o.log) held.outputs file
    (record { log = nothing_written }) h)) refl)

module _ {D : Type 0} (file : ℕ) (held old new : HostShown D) (is : held ≡ old) (was now : HostOutputShown)
    (opened : IsSome ((shown_host old).outputs file)) (log : was ≡ get_or held.outputs file was)
    (after : new ≡ record held { outputs = set held.outputs file now }) where
  before : log_of (shown_host old) file ≡ was.log
  before = log_before file held old new is was now opened log after

  afterwards : log_of (shown_host new) file ≡ now.log
  afterwards = log_after file held old new is was now opened log after

  hands_over : (bytes : List ℕ) → was.log.out ≡ []
      → now ≡ record { log = record { bytes = was.log.bytes; out = bytes } }
      → HandsOver file bytes (shown_host old) (shown_host new)
  hands_over bytes free handed = record {
    only = host_writes file held old new is was now opened log after []
        (ap (λ (o : HostOutputShown). o.log.bytes) handed ∙ sym (append-nil was.log.bytes));
    free = ap (λ (l : WriteLog). l.out) before ∙ free;
    log = log_there file held old new is was now opened log after
        ∙ ap (λ (o : HostOutputShown). Some o.log) handed
        ∙ ap (λ (l : WriteLog). Some (record { bytes = l.bytes; out = bytes })) (sym before);
    failures =
        ap (λ (h : HostShown D). h.failures)
        (writes_after file held old new is was now opened log after);
  }

  pub host_hands : {E : Type 0} (r : Result (Unit {0}) E) (bytes : List ℕ)
      → OnOk r (was.log.out ≡ [])
      → OnOk r (now ≡ record { log = record { bytes = was.log.bytes; out = bytes } })
      → OnOk r (HandsOver file bytes (shown_host old) (shown_host new))
  host_hands (Ok u) bytes free handed = hands_over bytes free handed
  host_hands (Err e) bytes free handed = tt

  pub host_settles_all : SettlesAll was.log now.log
      → SettlesAll (log_of (shown_host old) file) (log_of (shown_host new) file)
  host_settles_all s = afterwards ∙ s
      ∙ ap (λ (l : WriteLog). record { bytes = l.bytes ++ l.out; out = [] }) (sym before)

  pub host_settles_some : SettlesSome was.log now.log
      → SettlesSome (log_of (shown_host old) file) (log_of (shown_host new) file)
  host_settles_some s = subst (λ (l : WriteLog). SettlesSome l (log_of (shown_host new) file))
      (sym before) (subst (λ (l : WriteLog). SettlesSome was.log l) (sym afterwards) s)

  pub host_writes_all : SettlesAll was.log now.log
      → WritesOnly file (shown_host old) (shown_host new)
  host_writes_all s = host_writes file held old new is was now opened log after was.log.out
      (ap (λ (l : WriteLog). l.bytes) s)

  pub host_writes_some : SettlesSome was.log now.log
      → WritesOnly file (shown_host old) (shown_host new)
  host_writes_some s = host_writes file held old new is was now opened log after s.0
      (ap (λ (l : WriteLog). l.bytes) s.2)

  pub was_idle : out_of (shown_host old) file ≡ [] → was.log.out ≡ []
  was_idle none = sym (ap (λ (l : WriteLog). l.out) before) ∙ none

  -- an output that is as it was leaves all as it was
  pub host_same : now ≡ was → shown_host new ≡ shown_host old
  host_same same = ap shown_host (after ∙ ap (λ (l : List HostOutputShown).
      record held { outputs = l })
      (ap (λ (o : HostOutputShown). set held.outputs file o) (same ∙ log)
      ∙ set-get_or held.outputs file was) ∙ is)
