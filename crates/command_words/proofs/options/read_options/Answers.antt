use Rattle.std.proofs.Common.{◌++◌, ◌∷◌, [], Some, None, sym, ap, ◌∙◌}
use Rattle.std.proofs.lemmas.Result.{err_from_is_err_and}
use Rattle.command_words.specs.Options.{splits, with_front, splits_after}
use Rattle.command_words.proofs.lemmas.OptionSteps.{AtGroup, at_end, at_dashes, at_operand}
use Rattle.command_words.proofs.lemmas.OptionSteps.{at_group, at_fault, at_argument, no_argument}
use Rattle.command_words.proofs.options.read_options.Goals as goal
use Rattle.command_words.proofs.options.read_options.Goals.{After-read_group}

-- a word with a group of letters is in front
here : (c : After-read_group)
    → AtGroup c.words.given.items c.args.letters.now c.in-Some.word.now c.bytes-bytes.result.now
    c.words.rest.now c.in-Some.after.now
    (with_front c.args.given.now.items (splits c.args.letters.now c.args.words.now))
here c = record {
  bytes_are = c.bytes-bytes.ensures;
  rest_is = c.in-Some.ensures;
  no_end =
      c.if-is_end.ensures;
  a_group = c.if-not-is_group.ensures.value;
  left = c.words.invariant;
}

pub returns-then-is_end : goal.returns-then-is_end
returns-then-is_end c =
    at_dashes c.words.given.items c.args.letters.now c.bytes-bytes.result.now c.words.rest.now
    c.in-Some.after.now _ (c.in-Some.ensures
    ∙ ap (λ w. w ∷ c.in-Some.after.now) (sym c.bytes-bytes.ensures)) c.if-is_end.ensures
    c.words.invariant

pub returns-then-not-is_group : goal.returns-then-not-is_group
returns-then-not-is_group c =
    at_operand c.words.given.items c.args.letters.now c.bytes-bytes.result.now c.words.rest.now
    c.in-Some.after.now _ (c.in-Some.ensures
    ∙ ap (λ w. w ∷ c.in-Some.after.now) (sym c.bytes-bytes.ensures)) c.if-is_end.ensures
    c.if-not-is_group.ensures.value c.words.invariant

pub returns-in_err-letter : goal.returns-in_err-letter
returns-in_err-letter c =
    let p = err_from_is_err_and c.from_residual.result c.from_residual.ensures.1 in
    rw (p.1, p.2)
    (at_fault (here (goal.at.returns-in_err-letter c).After-read_group)
    c.in_err-letter.field-0.0 c.in_err-letter.ensures)

pub returns-in_default-split_first : goal.returns-in_default-split_first
returns-in_default-split_first c =
    rw c.at.ensures
    (no_argument c.read_group.new.given.items c.in-Some-2.letter c.args.letters.now
    c.in-Some.after.now _ c.in_default-split_first.ensures
    (at_group (here (goal.at.returns-in_default-split_first c).After-read_group)
    c.read_group.new.given.items (Some c.in-Some-2.letter) (c.in_ok-letter.ensures
    ∙ ap (λ w. Some (c.read_group.new.given.items, w)) c.in-Some-2.is)))

pub words-preserved-in-Some-2 : goal.words-preserved-in-Some-2
words-preserved-in-Some-2 c =
    let g = c.read_group.new.given.items in
    let letter = c.in-Some-2.letter in
    ap (λ x. with_front x (splits_after None c.args.letters.now c.in-Some-split_first.after.now))
    (c.in_ok-give.ensures ∙ ap (λ w. g ++ (letter, Some w) ∷ []) c.in_ok-copied.ensures)
    ∙ at_argument g letter c.args.letters.now c.in-Some-split_first.argument.now c.in-Some.after.now
    c.in-Some-split_first.after.now _ c.in-Some-split_first.ensures
    (at_group (here (goal.at.words-preserved-in-Some-2 c).After-read_group) g (Some letter)
    (c.in_ok-letter.ensures ∙ ap (λ w. Some (g, w)) c.in-Some-2.is))

pub words-preserved : goal.words-preserved
words-preserved c = at_group (here (goal.at.words-preserved c).After-read_group)
    c.read_group.new.given.items None (c.in_ok-letter.ensures
    ∙ ap (λ w. Some (c.read_group.new.given.items, w)) c.in_default-2.is)

pub returns : goal.returns
returns c = at_end c.words.given.items c.args.letters.now c.words.rest.now _ c.in_default.ensures
    c.words.invariant
