use Rattle.std.proofs.Common.{◌≡◌, ◌≤◌, ◌+◌, ◌-◌, ◌∙◌, true, [], ◌∷◌, ◌++◌, List, ℕ, length, take}
use Rattle.std.proofs.Common.{drop, ap, arith, refl, subst, sym}
use Rattle.std.specs.Prelude.{replicate}
use Rattle.std.proofs.lemmas.List.{take_rest}
use Rattle.machine.specs.Lines.{content, newline}
use Rattle.pair_filters.specs.LineKeys.{IsEnded, key_by}
use Rattle.lanes.specs.inner.Prefixes.{prefix_bytes}
use Rattle.pair_filters.specs.UniqSteps.{TakesBytes, lines_begun}
use Rattle.pair_filters.proofs.lemmas.KeyLaws.{kept_content, kept_ended}
use Rattle.pair_filters.specs.inner.ShortSteps.{line_at}
use Rattle.pair_filters.proofs.lemmas.ShortLaws.{runs_walked}
use Rattle.pair_filters.specs.declared.begun.Run.{Run}
use Rattle.pair_filters.proofs.lemmas.TakeLaws.{IsBefore, RunsWalked, as_before, walked_more}
use Rattle.pair_filters.proofs.lemmas.TakeLaws.{walked_all, walked_too_many, with_newline}
use Rattle.pair_filters.proofs.lemmas.UniqLaws.{goes_on_alike, goes_on_by, key_alike, one_more_some}
use Rattle.pair_filters.proofs.lemmas.UniqLaws.{takes_more, takes_other, one_too_many, some_before}
use Rattle.pair_filters.proofs.begun.Begun.walk_runs.Goals as goal

pub returns-in_err-run-clause-too_large : goal.returns-in_err-run-clause-too_large
returns-in_err-run-clause-too_large c =
    let l = c.loop-next in
    let rules = c.args.self.now.rules in
    let first = content (prefix_bytes l.run.first) in
    let k = c.in-Some.next.end in
    let line = take (k - l.at) (drop l.at c.args.bytes.now) in
    let known = as_before rules c.args.bytes.now (prefix_bytes l.before)
    (prefix_bytes l.run.first) l.run.count l.at k c.in-Some.ensures.line l.invariant.before
    (c.in-Some.ensures.alike c.if-next.true) in
    λ h. walked_too_many rules (lines_begun c.args.self.now)
    (replicate l.run.count first) c.args.bytes.now l.at k c.args.made.now l.made
    l.invariant.walked c.in-Some.ensures.line
    (one_too_many rules first line l.run.count true
    (goes_on_alike rules first line l.run.count (known.0) (known.1)) refl
    (c.in_err-run.ensures.1) (c.in_err-run.ensures.2))

pub loop-next-preserved-then-next : goal.loop-next-preserved-then-next
loop-next-preserved-then-next c =
    let l = c.loop-next in
    let rules = c.args.self.now.rules in
    let first = content (prefix_bytes l.run.first) in
    let k = c.in-Some.next.end in
    let line = take (k - l.at) (drop l.at c.args.bytes.now) in
    let known = as_before rules c.args.bytes.now (prefix_bytes l.before)
    (prefix_bytes l.run.first) l.run.count l.at k c.in-Some.ensures.line l.invariant.before
    (c.in-Some.ensures.alike c.if-next.true) in
    record {
      walked =
          walked_more rules (lines_begun c.args.self.now) (replicate l.run.count first)
          (replicate c.in_ok-run.field-0 first) c.args.bytes.now l.at k c.args.made.now l.made
          l.made l.invariant.walked c.in-Some.ensures.line
          (takes_more rules first line l.run.count c.in_ok-run.field-0 true l.made
          (goes_on_alike rules first line l.run.count (known.0) (known.1)) refl
          c.in_ok-run.ensures);
      first = l.invariant.first;
      key = l.invariant.key;
      ended = λ h. l.invariant.ended (known.0);
      before = λ h. let b = l.invariant.before h in
          record {
            line = b.line;
            some =
                one_more_some rules.shown l.run.count c.in_ok-run.field-0 c.in_ok-run.ensures;
            key =
                b.key;
          };
      kept = λ h. l.invariant.kept (known.0);
    }

pub returns-in_err-run-2-clause-too_large : goal.returns-in_err-run-2-clause-too_large
returns-in_err-run-2-clause-too_large c =
    let l = c.loop-next in
    let rules = c.args.self.now.rules in
    let first = content (prefix_bytes l.run.first) in
    let k = c.in-Some.next.end in
    let line = take (k - l.at) (drop l.at c.args.bytes.now) in
    λ h. walked_too_many rules (lines_begun c.args.self.now)
    (replicate l.run.count first) c.args.bytes.now l.at k c.args.made.now l.made
    l.invariant.walked c.in-Some.ensures.line
    (one_too_many rules first line l.run.count c.continues.result
    (goes_on_by rules first line (prefix_bytes l.run.key)
    (prefix_bytes c.key_part-line_key.result) l.run.count c.continues.result c.continues.ensures
    l.invariant.key (c.key_part-line_key.ensures
    ∙ ap (key_by rules) c.line_parts.ensures.content))
    c.if-continues.true (c.in_err-run-2.ensures.1) (c.in_err-run-2.ensures.2))

pub loop-next-preserved-then-continues : goal.loop-next-preserved-then-continues
loop-next-preserved-then-continues c =
    let l = c.loop-next in
    let rules = c.args.self.now.rules in
    let first = content (prefix_bytes l.run.first) in
    let k = c.in-Some.next.end in
    let line = take (k - l.at) (drop l.at c.args.bytes.now) in
    let whole = prefix_bytes c.line_parts.result.1 in
    let ends : whole ≡ line ++ newline ∷ [] = c.line_parts.ensures.whole
    ∙ with_newline c.args.bytes.now l.at k c.in-Some.ensures.line in
    let goes_on = goes_on_by rules first line (prefix_bytes l.run.key)
    (prefix_bytes c.key_part-line_key.result) l.run.count c.continues.result c.continues.ensures
    l.invariant.key (c.key_part-line_key.ensures
    ∙ ap (key_by rules) c.line_parts.ensures.content) in
    let some : 1 ≤ l.run.count = some_before l.run.count (key_by rules first)
    (key_by rules line) c.continues.result goes_on c.if-continues.true in
    record {
      walked =
          walked_more rules (lines_begun c.args.self.now) (replicate l.run.count first)
          (replicate c.in_ok-run-2.field-0 first) c.args.bytes.now l.at k c.args.made.now l.made
          l.made l.invariant.walked c.in-Some.ensures.line
          (takes_more rules first line l.run.count c.in_ok-run-2.field-0 c.continues.result l.made
          goes_on c.if-continues.true c.in_ok-run-2.ensures);
      first = l.invariant.first;
      key = l.invariant.key;
      ended = λ h. l.invariant.ended some;
      before = λ h.
          record {
            line = (line, c.in-Some.ensures.line.none_before, ends);
            some = one_more_some rules.shown l.run.count c.in_ok-run-2.field-0
                c.in_ok-run-2.ensures;
            key = (ap (key_by rules) (kept_content line whole ends)
                ∙ key_alike l.run.count (key_by rules first)
                (key_by rules line) c.continues.result goes_on c.if-continues.true);
          };
      kept = λ h. l.invariant.kept some;
    }

pub loop-next-preserved-then-not-are_short : goal.loop-next-preserved-then-not-are_short
loop-next-preserved-then-not-are_short c =
    let l = c.loop-next in
    let rules = c.args.self.now.rules in
    let bytes = c.args.bytes.now in
    let begun = lines_begun c.args.self.now in
    let first = content (prefix_bytes l.run.first) in
    let k = c.in-Some.next.end in
    let line = take (k - l.at) (drop l.at bytes) in
    let whole = prefix_bytes c.line_parts.result.1 in
    let ends : whole ≡ line ++ newline ∷ [] = c.line_parts.ensures.whole
    ∙ with_newline bytes l.at k c.in-Some.ensures.line in
    let same : content whole ≡ line = kept_content line whole ends in
    let line_key : prefix_bytes c.key_part-line_key.result ≡ key_by rules line =
    c.key_part-line_key.ensures ∙ ap (key_by rules) c.line_parts.ensures.content in
    let is = sym c.new-run-in-Some.ensures in
    record {
      walked =
          subst (λ (r : Run). RunsWalked rules begun
          (replicate r.count (content (prefix_bytes r.first))) bytes
          (k + 1) c.args.made.now c.put_run.new.made) is
          (subst (λ (x : List ℕ). RunsWalked rules begun (replicate 1 x) bytes
          (k + 1) c.args.made.now c.put_run.new.made) (sym same)
          (walked_more rules begun (replicate l.run.count first)
          (replicate 1 line) bytes l.at k c.args.made.now l.made c.put_run.new.made
          l.invariant.walked c.in-Some.ensures.line
          (takes_other rules first line l.run.count c.continues.result l.made c.put_run.new.made
          (goes_on_by rules first line (prefix_bytes l.run.key)
          (prefix_bytes c.key_part-line_key.result) l.run.count c.continues.result
          c.continues.ensures l.invariant.key line_key)
          c.if-continues.false c.in_ok-put_run.ensures)));
      first = subst (λ (r : Run). content (prefix_bytes r.first) ≡ c.bytes.result.now) is (same
          ∙ sym (c.bytes.ensures ∙ c.line_parts.ensures.content));
      key = subst (λ (r : Run). prefix_bytes r.key ≡ key_by rules (content (prefix_bytes r.first)))
          is (line_key ∙ ap (key_by rules) (sym same));
      ended = subst (λ (r : Run). 1 ≤ r.count → IsEnded (prefix_bytes r.first)) is
          (λ h. kept_ended line whole ends);
      before = subst (λ (r : Run). 1 ≤ length whole
          → IsBefore rules whole (prefix_bytes r.first) r.count) is
          (λ h. record {
            line = (line, c.in-Some.ensures.line.none_before, ends);
            some =
                omega arith;
            key = refl;
          });
      kept = λ h none. absurd (cc);
    }

pub loop-next-preserved : goal.loop-next-preserved
loop-next-preserved c =
    let l = c.loop-next in
    let rules = c.args.self.now.rules in
    let bytes = c.args.bytes.now in
    let begun = lines_begun c.args.self.now in
    let first = content (prefix_bytes l.run.first) in
    let k = c.in-Some.next.end in
    let line = take (k - l.at) (drop l.at bytes) in
    let last = c.in_ok-last.last in
    let taken = c.in_ok-last.ensures in
    let after = line_at bytes last.start last.end in
    let whole = prefix_bytes c.line_parts-in-Some.result.1 in
    let ends : whole ≡ after ++ newline ∷ [] = c.line_parts-in-Some.ensures.whole
    ∙ with_newline bytes last.start last.end taken.line in
    let same : content whole ≡ after = kept_content after whole ends in
    let goes_on = goes_on_by rules first line (prefix_bytes l.run.key)
    (prefix_bytes c.key_part-line_key.result) l.run.count c.continues.result c.continues.ensures
    l.invariant.key (c.key_part-line_key.ensures
    ∙ ap (key_by rules) c.line_parts.ensures.content) in
    let is = sym c.new-run-in-Some-2.ensures in
    record {
      walked =
          subst (λ (r : Run). RunsWalked rules begun
          (replicate r.count (content (prefix_bytes r.first))) bytes
          (last.end + 1) c.args.made.now c.put_short_runs.new.made) is
          (subst (λ (x : List ℕ). RunsWalked rules begun (replicate last.count x) bytes
          (last.end + 1) c.args.made.now c.put_short_runs.new.made) (sym same)
          (runs_walked rules begun bytes l.at k last c.args.made.now c.put_run.new.made
          c.put_short_runs.new.made
          (walked_more rules begun (replicate l.run.count first)
          (replicate 1 line) bytes l.at k c.args.made.now l.made c.put_run.new.made
          l.invariant.walked c.in-Some.ensures.line
          (takes_other rules first line l.run.count c.continues.result l.made c.put_run.new.made
          goes_on c.if-continues.false c.in_ok-put_run.ensures))
          taken));
      first = subst (λ (r : Run). content (prefix_bytes r.first) ≡ c.bytes-in-Some.result.now) is
          (same ∙ sym (c.bytes-in-Some.ensures ∙ c.line_parts-in-Some.ensures.content));
      key = subst (λ (r : Run). prefix_bytes r.key ≡ key_by rules (content (prefix_bytes r.first)))
          is ((c.key_part.ensures ∙ ap (key_by rules) c.line_parts-in-Some.ensures.content)
          ∙ ap (key_by rules) (sym same));
      ended = subst (λ (r : Run). 1 ≤ r.count → IsEnded (prefix_bytes r.first)) is
          (λ h. kept_ended after whole ends);
      before = subst (λ (r : Run). 1 ≤ length whole
          → IsBefore rules whole (prefix_bytes r.first) r.count) is
          (λ h. record {
            line = (after, taken.line.none_before, ends);
            some = taken.some;
            key =
                refl;
          });
      kept = λ h none. absurd (cc);
    }

pub returns-clause-ok : goal.returns-clause-ok
returns-clause-ok c =
    let l = c.loop-next in
    let rest = take (length c.args.bytes.now - l.at) (drop l.at c.args.bytes.now) in
    subst (λ (x : List ℕ). TakesBytes c.args.self.now.rules (lines_begun c.args.self.now)
    (replicate l.run.count x) [] rest c.args.bytes.now c.args.made.now l.made) l.invariant.first
    (walked_all c.args.self.now.rules (lines_begun c.args.self.now)
    (replicate l.run.count (content (prefix_bytes l.run.first))) c.args.bytes.now rest l.at
    c.args.made.now l.made l.invariant.walked c.in_default.ensures.line
    (take_rest c.args.bytes.now l.at))
