-- A source that offers what it owes keeps its case.
use Rattle.std.proofs.Common.{◌≡◌, ℕ, Bool, true, false, ◌||◌, List, ◌++◌, Option, Some, None}
use Rattle.std.proofs.Common.{is_none, refl, sym, ap, ◌∙◌, subst, append-nil}
use Rattle.std.proofs.lemmas.Bool.{false≢true}
use mathlib.Core.List.{IsPrefix}
use Rattle.machine.specs.Items.{bytes_of, has_close, IsTidy}
use Rattle.machine.specs.declared.piece.Item.{Item}
use Rattle.machine.specs.declared.piece.Item.TheVariants.{Bytes, Close}
use Rattle.bounded_pipe.specs.Ends.{Writing}
use Rattle.bounded_pipe.specs.Events.{Puts, SameWriting}
use Rattle.bounded_pipe.specs.Pipes.{is_closed}
use Rattle.collector.specs.Files.{ReadLog}
use Rattle.collector.specs.Sources.{SourceKeeps, SourcePart, SourceCase, held_bytes}
use Rattle.collector.specs.Nodes.{SourceShown, SourceFits, source_part}
use Rattle.collector.specs.inner.Parts.{with_item, OffersPiece, OffersClose}
use Rattle.run_types.specs.declared.node_state.NodeState.{NodeState}
use Rattle.run_types.specs.declared.node_state.NodeState.TheVariants as states
use Rattle.run_types.specs.declared.step.Step.{Step}
use Rattle.run_types.specs.declared.step.Step.TheVariants as steps
use Rattle.collector.proofs.lemmas.Items.{bytes_of-piece, bytes_of-close, has_close-piece}
use Rattle.collector.proofs.lemmas.Items.{has_close-close, tidy_piece, tidy_close}

-- the held piece was put
put_piece : (block : ℕ) (nothing at_end : Bool) (read piece : List ℕ) (state later : NodeState)
    (w v : Writing) → Puts (Bytes piece) w v → is_closed w ≡ false →
    SourceKeeps block nothing
    (record { state = state; read = read; at_end = at_end; held = Some piece }) w →
    SourceKeeps block nothing (record { state = later; read = read; at_end = at_end; held = None })
    v
put_piece block nothing at_end read piece state later w v p unclosed k = record {
  bytes = append-nil (bytes_of v.put)
      ∙ (ap bytes_of p.put ∙ (bytes_of-piece w.put piece ∙ k.bytes));
  unread = k.unread;
  close =
      λ h. absurd (false≢true (sym unclosed
      ∙ (sym (has_close-piece w.put piece) ∙ (sym (ap has_close p.put) ∙ h))));
  held = tt;
  tidy = subst (λ (l : List Item). IsTidy block l) (sym p.put)
      (tidy_piece block w.put piece k.tidy unclosed k.held);
}

-- Close was put
put_close : (block : ℕ) (nothing at_end : Bool) (read : List ℕ) (state later : NodeState)
    (w v : Writing) → Puts Close w v → is_closed w ≡ false → (at_end || nothing) ≡ true →
    SourceKeeps block nothing (record { state = state; read = read; at_end = at_end; held = None })
    w →
    SourceKeeps block nothing (record { state = later; read = read; at_end = at_end; held = None })
    v
put_close block nothing at_end read state later w v p unclosed ended k = record {
  bytes = append-nil (bytes_of v.put)
      ∙ (ap bytes_of p.put
      ∙ (bytes_of-close w.put ∙ (sym (append-nil (bytes_of w.put)) ∙ k.bytes)));
  unread = k.unread;
  close = λ h. (refl, ended);
  held = tt;
  tidy = subst (λ (l : List Item). IsTidy block l) (sym p.put)
      (tidy_close block w.put k.tidy unclosed);
}

keeps_looked : (block : ℕ) (nothing : Bool) (x : SourcePart) (w v : Writing) → SameWriting w v
    → SourceKeeps block nothing x w → SourceKeeps block nothing x v
keeps_looked block nothing x w v s k = record {
  bytes = ap (λ l. bytes_of l ++ held_bytes x.held) s.put ∙ k.bytes;
  unread = k.unread;
  close = λ h. k.close (sym (ap has_close s.put) ∙ h);
  held = k.held;
  tidy = subst (λ (l : List Item). IsTidy block l) (sym s.put) k.tidy;
}

-- what a source that runs and holds this keeps
pub kept : (log : ReadLog) (x : SourceShown) (held : Option (List ℕ)) → x.state ≡ states.Running
    → x.held ≡ held → SourceFits log x →
    SourceKeeps x.block (is_none x.file)
    (record { state = x.state; read = log.bytes; at_end = x.at_end; held = held }) x.end
kept log x held running e f =
    subst (λ (h : Option (List ℕ)). SourceKeeps x.block (is_none x.file)
    (record { state = x.state; read = log.bytes; at_end = x.at_end; held = h }) x.end) e
    (subst (λ (s : NodeState). SourceCase x.block (is_none x.file)
    (source_part log.bytes x) s x.end) running f.case)

-- an end that did nothing leaves the case as it was
case_looked : (block : ℕ) (nothing : Bool) (x : SourcePart) (state : NodeState) (w v : Writing)
    → SameWriting w v → SourceCase block nothing x state w → SourceCase block nothing x state v
case_looked block nothing x states.Running w v s c = keeps_looked block nothing x w v s c
case_looked block nothing x states.Ended w v s c =
    (keeps_looked block nothing x w v s c.0, ap has_close s.put ∙ c.1)
case_looked block nothing x states.Broken w v s c =
    (keeps_looked block nothing x w v s c.0, s.noted ∙ c.1)
case_looked block nothing x (states.Failed fault) w v s c = record {
  bytes = subst (λ (l : List Item). IsPrefix (bytes_of l) x.read) (sym s.put) c.bytes;
  unread = c.unread;
  unclosed = ap has_close s.put ∙ c.unclosed;
  tidy = subst (λ (l : List Item). IsTidy block l) (sym s.put) c.tidy;
}

fits_looked : (log : ReadLog) (x : SourceShown) (v : Writing) → SameWriting x.end v
    → SourceFits log x → SourceFits log (record x { end = v })
fits_looked log x v s f = record {
  at_end = f.at_end;
  unclosed = λ r. ap has_close s.put ∙ f.unclosed r;
  case = case_looked x.block (is_none x.file) (source_part log.bytes x) x.state x.end v s f.case;
}

-- a source in this state holds nothing
holds_none : (log : ReadLog) (x : SourceShown) (state : NodeState) (v : Writing) → x.held ≡ None
    → SourceCase x.block (is_none x.file)
    (record { state = state; read = log.bytes; at_end = x.at_end; held = None }) state v
    → SourceCase x.block (is_none x.file)
    (record { state = state; read = log.bytes; at_end = x.at_end; held = x.held }) state v
holds_none log x state v none c =
    subst (λ (h : Option (List ℕ)). SourceCase x.block (is_none x.file)
    (record { state = state; read = log.bytes; at_end = x.at_end; held = h }) state v) (sym none) c

module _ (old new : SourceShown) (running : old.state ≡ states.Running)
    (none : old.held ≡ None) where
  -- a piece was offered
  pub piece_fits : (piece : List ℕ) (step : Step) → OffersPiece piece old new step → (log : ReadLog)
      → SourceFits log (with_item (Bytes piece) old) → SourceFits log new
  piece_fits piece steps.Moved o log f =
      subst (λ (x : SourceShown). SourceFits log x) (sym o.1) (record {
        at_end = f.at_end;
        unclosed = λ r. ap has_close o.0.put
            ∙ (has_close-piece old.end.put piece ∙ f.unclosed running);
        case = holds_none log old old.state new.end none
            (subst (λ (s : NodeState). SourceCase old.block (is_none old.file)
            (record { state = old.state; read = log.bytes; at_end = old.at_end; held = None }) s
            new.end) (sym running)
            (put_piece old.block (is_none old.file) old.at_end log.bytes piece old.state old.state
            old.end new.end o.0
            (f.unclosed running) (kept log (with_item (Bytes piece) old)
            (Some piece) running refl f)));
      })
  piece_fits piece (steps.Waits pipe) o log f =
      subst (λ (x : SourceShown). SourceFits log x) (sym o.3)
      (fits_looked log (with_item (Bytes piece) old) new.end o.2 f)
  piece_fits piece _ o log f = absurd o

  -- Close was offered
  pub close_fits : (step : Step) → (old.at_end || is_none old.file) ≡ true
      → OffersClose old new step
      → (log : ReadLog) → SourceFits log old → SourceFits log new
  close_fits (steps.Waits pipe) owes o log f =
      subst (λ (x : SourceShown). SourceFits log x) (sym o.3) (fits_looked log old new.end o.2 f)
  close_fits steps.Ended owes o log f =
      subst (λ (x : SourceShown). SourceFits log x) (sym o.1) (record {
        at_end = f.at_end;
        unclosed = λ r. cc;
        case = holds_none log old states.Ended new.end none (
          put_close old.block (is_none old.file) old.at_end log.bytes old.state states.Ended old.end
              new.end o.0
              (f.unclosed running) owes (kept log old None running none f),
          ap has_close o.0.put ∙ has_close-close old.end.put,
        );
      })
  close_fits _ owes o log f = absurd o
