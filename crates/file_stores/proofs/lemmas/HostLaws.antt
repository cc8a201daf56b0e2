-- Files of the host, of which one log changed.
use Rattle.std.proofs.Common.{◌≡◌, ◌≢◌, ℕ, suc, zero, ◌<◌, List, [], ◌∷◌, ◌++◌, length, get_or, set}
use Rattle.std.proofs.Common.{Option, Some, None, IsSome, IfSome, IfNone, unwrap_or, refl, sym, ap}
use Rattle.std.proofs.Common.{◌∙◌, subst, append-nil, arith}
use Rattle.std.specs.Prelude.{slice_get}
use Rattle.std.proofs.lemmas.Option.{slice_get-get_or}
use Rattle.collector.specs.Files.{FilesShown, ReadLog, nothing_read, Reads, ReadsOnly, WritesOnly}
use Rattle.collector.specs.Files.{SameContents, WriteLog, nothing_written, reads_of, writes_of}
use Rattle.collector.specs.Files.{log_of}
use Rattle.collector.specs.declared.needed.LeftOut.{LeftOut}
use Rattle.collector.specs.declared.needed.LeftOut.TheVariants.{Nothing}
use Rattle.file_stores.specs.inner.Host.{HostInputShown, HostOutputShown, HostShown, shown_host}
use Rattle.file_stores.proofs.lemmas.Holdings.{reads_go_on}
use Rattle.file_stores.proofs.lemmas.Numbers.{log_at, log_set, log_set_others, log_set_same}
use Rattle.file_stores.proofs.lemmas.Numbers.{log_within}

module _ {D : Type 0} (file : ℕ) (held old new : HostShown D) (is : held ≡ old) where
  module _ (was now : HostInputShown) (opened : IsSome ((shown_host old).inputs file))
      (log : was ≡ get_or held.inputs file was)
      (after : new ≡ record held { inputs = set held.inputs file now }) where
    reads_after : new ≡ record old { inputs = set old.inputs file now }
    reads_after = after ∙ ap (λ (h : HostShown D). record h { inputs = set h.inputs file now }) is

    was_is : was ≡ get_or old.inputs file was
    was_is = subst (λ (h : HostShown D). was ≡ get_or h.inputs file was) is log

    inside : file < length old.inputs
    inside = log_within (λ (i : HostInputShown). i.log) old.inputs file opened

    before_is : reads_of (shown_host old) file ≡ was.log
    before_is = ap (λ (o : Option ReadLog). unwrap_or o nothing_read)
        (log_at (λ (i : HostInputShown). i.log) old.inputs file was inside)
        ∙ ap (λ (i : HostInputShown). i.log) (sym was_is)

    now_at : (shown_host new).inputs file ≡ Some now.log
    now_at = ap (λ (h : HostShown D). (shown_host h).inputs file) reads_after
        ∙ log_set (λ (i : HostInputShown). i.log) old.inputs file now inside

    now_is : reads_of (shown_host new) file ≡ now.log
    now_is = ap (λ (o : Option ReadLog). unwrap_or o nothing_read) now_at

    same_contents : SameContents (shown_host old) (shown_host new)
    same_contents = record {
      targets = λ k. refl;
      contents = λ d. refl;
      places = record {
        held_back = ap (λ (h : HostShown D). h.held_back) reads_after;
        in_place =
            λ back name. refl;
      };
    }

    -- every input has the note that it had, if this one has
    same_left : now.left ≡ was.left → (k : ℕ) → (shown_host new).left_out k
        ≡ (shown_host old).left_out k
    same_left kept k = ap (λ (h : HostShown D). (shown_host h).left_out k) reads_after
        ∙ ap (λ (o : Option LeftOut). unwrap_or o Nothing)
        (log_set_same (λ (i : HostInputShown). i.left) old.inputs file now was inside
        (kept ∙ ap (λ (i : HostInputShown). i.left) was_is) k)

    pub host_told : (room : ℕ) (given : List ℕ) → Reads room given was.log now.log
        → Reads room given (reads_of (shown_host old) file) (reads_of (shown_host new) file)
    host_told room given r = rw (before_is, now_is) r

    pub host_reads : now.left ≡ was.left → (room : ℕ) (given : List ℕ)
        → Reads room given was.log now.log → ReadsOnly file (shown_host old) (shown_host new)
    host_reads kept room given r = record {
      openings = ap (λ (h : HostShown D). h.openings) reads_after;
      still = subst (λ (o : Option ReadLog). IsSome o) (sym now_at) refl;
      goes_on = reads_go_on room given (reads_of (shown_host old) file)
          (reads_of (shown_host new) file) (host_told room given r);
      inputs = λ k ne. ap (λ (h : HostShown D). (shown_host h).inputs k) reads_after
          ∙ log_set_others (λ (i : HostInputShown). i.log) old.inputs file now k ne;
      outputs = λ k. ap (λ (h : HostShown D). (shown_host h).outputs k) reads_after;
      contents = same_contents;
      held = record { standard_input = refl; held = λ k. refl; left_out = same_left kept };
      reads = λ content is was. cc;
    }

    -- an input that is as it was gave nothing
    gave_nothing : now ≡ was → Reads 0 [] was.log now.log
    gave_nothing same = record {
      bytes = ap (λ (i : HostInputShown). i.log.bytes) same ∙ sym (append-nil was.log.bytes);
      end = λ room none. absurd (omega (arith, room));
      goes_on = λ none. ap (λ (i : HostInputShown). i.log.at_end) same;
      after = λ at_end. refl;
    }

    -- it gave bytes that were read ahead, or is as it was
    pub host_gave : {T : Type 0} (r : Option T) (items : T → List ℕ)
        → IfSome r (λ b. Reads (length (items b)) (items b) was.log now.log)
        → IfSome r (λ b. Reads (length (items b)) (items b) (reads_of (shown_host old) file)
        (reads_of (shown_host new) file))
    host_gave (Some b) items told = host_told (length (items b)) (items b) told
    host_gave None items told = tt

    pub host_takes : {T : Type 0} (r : Option T) (items : T → List ℕ) → now.left ≡ was.left
        → IfSome r (λ b. Reads (length (items b)) (items b) was.log now.log)
        → IfNone r (now ≡ was) → ReadsOnly file (shown_host old) (shown_host new)
    host_takes (Some b) items kept told same = host_reads kept (length (items b)) (items b) told
    host_takes None items kept told same = host_reads kept 0 [] (gave_nothing same)

  module _ (was now : HostOutputShown) (opened : IsSome ((shown_host old).outputs file))
      (log : was ≡ get_or held.outputs file was)
      (after : new ≡ record held { outputs = set held.outputs file now }) where
    pub writes_after : new ≡ record old { outputs = set old.outputs file now }
    writes_after = after ∙ ap (λ (h : HostShown D). record h { outputs = set h.outputs file now }) is

    open_at : file < length old.outputs
    open_at = log_within (λ (o : HostOutputShown). o.log) old.outputs file opened

    output_is : was ≡ get_or old.outputs file was
    output_is = subst (λ (h : HostShown D). was ≡ get_or h.outputs file was) is log

    -- the record of the output was this one
    pub log_before : log_of (shown_host old) file ≡ was.log
    log_before = ap (λ (o : Option WriteLog). unwrap_or o nothing_written)
        (log_at (λ (o : HostOutputShown). o.log) old.outputs file was open_at)
        ∙ ap (λ (o : HostOutputShown). o.log) (sym output_is)

    pub log_there : (shown_host new).outputs file ≡ Some now.log
    log_there = ap (λ (h : HostShown D). (shown_host h).outputs file) writes_after
        ∙ log_set (λ (o : HostOutputShown). o.log) old.outputs file now open_at

    -- and it is that one now
    pub log_after : log_of (shown_host new) file ≡ now.log
    log_after = ap (λ (o : Option WriteLog). unwrap_or o nothing_written) log_there

    module _ (more : List ℕ) (told : now.log.bytes ≡ was.log.bytes ++ more) where
      pub host_took : writes_of (shown_host new) file ≡ writes_of (shown_host old) file ++ more
      host_took = ap (λ (l : WriteLog). l.bytes) log_after ∙ told
          ∙ ap (λ (l : WriteLog). l.bytes ++ more) (sym log_before)

      pub host_writes : WritesOnly file (shown_host old) (shown_host new)
      host_writes = record {
        openings = ap (λ (h : HostShown D). h.openings) writes_after;
        still = subst (λ (o : Option WriteLog). IsSome o) (sym log_there) refl;
        grows = record { more = more; log = host_took; content = λ d held t was. cc };
        inputs = λ k. ap (λ (h : HostShown D). (shown_host h).inputs k) writes_after;
        outputs = λ k ne. ap (λ (h : HostShown D). (shown_host h).outputs k) writes_after
            ∙ log_set_others (λ (o : HostOutputShown). o.log) old.outputs file now k ne;
        targets = λ k. refl;
        held = record {
          standard_input = refl;
          held = λ k. refl;
          left_out = λ k. ap (λ (h : HostShown D). (shown_host h).left_out k) writes_after;
        };
        others = λ d t. refl;
        places = record {
          held_back = ap (λ (h : HostShown D). h.held_back) writes_after;
          in_place =
              λ back name. refl;
        };
      }

-- failures tell nothing of what was written
pub other_failures : (file f : ℕ) (a mid : FilesShown) → WritesOnly file a mid
    → WritesOnly file a (record mid { failures = f })
other_failures file f a mid w = record {
  openings = w.openings;
  still = w.still;
  grows = record { more = w.grows.more; log = w.grows.log; content = w.grows.content };
  inputs = w.inputs;
  outputs = w.outputs;
  targets = w.targets;
  held = record {
    standard_input = w.held.standard_input;
    held = w.held.held;
    left_out = w.held.left_out;
  };
  others = w.others;
  places = let p = w.places in record { held_back = p.held_back; in_place = p.in_place };
}
