use Rattle.std.proofs.Common.{◌≡◌, ℕ, ◌∙◌, sym, ap, Bool, List, take, drop, length, min, arith, ◌-◌}
use Rattle.std.specs.Prelude.{◌&&◌, codes}
use Rattle.std.proofs.lemmas.List.{take_min, drop_min, take_all, length-drop}
use Rattle.command_words.specs.Streams.{is_of_thread, is_thread}
use Rattle.command_words.specs.Texts.{same_bytes}
use Rattle.command_words.proofs.streams.is_of_thread.Goals as goal

-- the first part, and what comes after it
parted : (folder : List ℕ) (n : ℕ) → n ≡ min 16 (length folder)
    → is_of_thread folder
    ≡ (same_bytes (take n folder) (codes "/proc/self/task/") && is_thread (drop n folder))
parted folder n is =
    sym (ap (λ (k : ℕ). same_bytes (take k folder) (codes "/proc/self/task/") && is_thread (drop k folder)) is
    ∙ (ap (λ (x : List ℕ). same_bytes x (codes "/proc/self/task/") && is_thread (drop (min 16 (length folder)) folder)) (take_min 16 folder)
    ∙ ap (λ (x : List ℕ). same_bytes (take 16 folder) (codes "/proc/self/task/") && is_thread x) (drop_min 16 folder)))

-- a part up to the end is all of it
to_end : (n : ℕ) (folder : List ℕ) → take (length folder - n) (drop n folder) ≡ drop n folder
to_end n folder = take_all (length folder - n) (drop n folder)
    (let long = length-drop n folder in omega (arith, long))

pub returns-then-same_bytes : goal.returns-then-same_bytes
returns-then-same_bytes c =
    c.is_thread.ensures
    ∙ (ap is_thread (to_end c.min-thread.result c.args.folder.now)
    ∙ (ap (λ (b : Bool). b && is_thread (drop c.min-thread.result c.args.folder.now))
    (sym c.if-same_bytes.true ∙ c.same_bytes.ensures)
    ∙ sym (parted c.args.folder.now c.min-thread.result c.min-thread.ensures)))

pub returns-else-same_bytes : goal.returns-else-same_bytes
returns-else-same_bytes c =
    c.if-same_bytes.false
    ∙ (ap (λ (b : Bool). b && is_thread (drop c.min-thread.result c.args.folder.now))
    (sym c.if-same_bytes.false ∙ c.same_bytes.ensures)
    ∙ sym (parted c.args.folder.now c.min-thread.result c.min-thread.ensures))
