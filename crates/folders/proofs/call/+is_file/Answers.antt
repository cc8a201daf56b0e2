use Rattle.std.proofs.Common.{◌≡◌, ◌-◌, [], length, take, Bool, true, false, refl, cond, Some, None, List, ℕ, sym, ◌∙◌, ap}
use Rattle.std.specs.Prelude.{is_some, not, bytes_eq}
use Rattle.folders.specs.inner.Memory.{viewed, no_file}
use Rattle.folders.specs.declared.call.FolderCall.TheVariants.{Create, Rename, Remove}
use Rattle.folders.proofs.lemmas.Memory.{seen_last, other_calls}
use Rattle.folders.proofs.call.+is_file.Goals as goal

pub returns-then-is : goal.returns-then-is
returns-then-is t c =
    let calls = c.args.calls.now in
    let n = c.args.name.now in
    let view = viewed (take (length calls - 1) calls) no_file in
    let seen = seen_last calls c.last-item.result (Create c.in-Create.made) n c.in-len1-up.len_at_least c.last-item.is c.in-Create.is in
    c.if-is.true ∙ sym (ap is_some seen ∙ ap (λ (b : Bool). is_some (cond b (Some []) (view n))) (sym c.is.ensures ∙ c.if-is.true))

pub returns-else-is : goal.returns-else-is
returns-else-is t c =
    let calls = c.args.calls.now in
    let n = c.args.name.now in
    let view = viewed (take (length calls - 1) calls) no_file in
    let seen = seen_last calls c.last-item.result (Create c.in-Create.made) n c.in-len1-up.len_at_least c.last-item.is c.in-Create.is in
    c.is_file.ensures ∙ sym (ap is_some seen ∙ ap (λ (b : Bool). is_some (cond b (Some []) (view n))) (sym c.is.ensures ∙ c.if-is.false))

pub returns-then-not-is : goal.returns-then-not-is
returns-then-not-is t c =
    let calls = c.args.calls.now in
    let n = c.args.name.now in
    let view = viewed (take (length calls - 1) calls) no_file in
    let seen = seen_last calls c.last-item.result (Remove c.in-Remove.gone) n c.in-len1-up.len_at_least c.last-item.is c.in-Remove.is in
    let other : c.is-in-Remove.result ≡ false = c.if-not-is.true in
    c.is_file-then-not-is.ensures ∙ sym (ap is_some seen ∙ ap (λ (b : Bool). is_some (cond b None (view n))) (sym c.is-in-Remove.ensures ∙ other))

pub returns-else-not-is : goal.returns-else-not-is
returns-else-not-is t c =
    let calls = c.args.calls.now in
    let n = c.args.name.now in
    let view = viewed (take (length calls - 1) calls) no_file in
    let seen = seen_last calls c.last-item.result (Remove c.in-Remove.gone) n c.in-len1-up.len_at_least c.last-item.is c.in-Remove.is in
    let here : c.is-in-Remove.result ≡ true = c.if-not-is.false in
    ap not here ∙ sym (ap is_some seen ∙ ap (λ (b : Bool). is_some (cond b None (view n))) (sym c.is-in-Remove.ensures ∙ here))

pub returns-then-is-2 : goal.returns-then-is-2
returns-then-is-2 t c =
    let calls = c.args.calls.now in
    let n = c.args.name.now in
    let view = viewed (take (length calls - 1) calls) no_file in
    let from = c.in-Rename.from in
    let seen = seen_last calls c.last-item.result (Rename from c.in-Rename.to) n c.in-len1-up.len_at_least c.last-item.is c.in-Rename.is in
    c.is_file-then-is-2.ensures ∙ ap (λ (m : List ℕ). is_some (view m)) c.bytes.ensures
    ∙ sym (ap is_some seen ∙ ap (λ (b : Bool). is_some (cond b (view from) (cond (bytes_eq n from) None (view n)))) (sym c.is-in-Rename.ensures ∙ c.if-is-2.true))

pub returns-then-not-is-2 : goal.returns-then-not-is-2
returns-then-not-is-2 t c =
    let calls = c.args.calls.now in
    let n = c.args.name.now in
    let view = viewed (take (length calls - 1) calls) no_file in
    let from = c.in-Rename.from in
    let seen = seen_last calls c.last-item.result (Rename from c.in-Rename.to) n c.in-len1-up.len_at_least c.last-item.is c.in-Rename.is in
    let other : c.is-else-is-2.result ≡ false = c.if-not-is-2.true in
    c.is_file-then-not-is-2.ensures
    ∙ sym (ap is_some seen ∙ ap (λ (b : Bool). is_some (cond b (view from) (cond (bytes_eq n from) None (view n)))) (sym c.is-in-Rename.ensures ∙ c.if-is-2.false)
    ∙ ap (λ (b : Bool). is_some (cond b None (view n))) (sym c.is-else-is-2.ensures ∙ other))

pub returns-else-not-is-2 : goal.returns-else-not-is-2
returns-else-not-is-2 t c =
    let calls = c.args.calls.now in
    let n = c.args.name.now in
    let view = viewed (take (length calls - 1) calls) no_file in
    let from = c.in-Rename.from in
    let seen = seen_last calls c.last-item.result (Rename from c.in-Rename.to) n c.in-len1-up.len_at_least c.last-item.is c.in-Rename.is in
    let here : c.is-else-is-2.result ≡ true = c.if-not-is-2.false in
    ap not here
    ∙ sym (ap is_some seen ∙ ap (λ (b : Bool). is_some (cond b (view from) (cond (bytes_eq n from) None (view n)))) (sym c.is-in-Rename.ensures ∙ c.if-is-2.false)
    ∙ ap (λ (b : Bool). is_some (cond b None (view n))) (sym c.is-else-is-2.ensures ∙ here))

pub returns-in_default-last : goal.returns-in_default-last
returns-in_default-last t c =
    let calls = c.args.calls.now in
    let n = c.args.name.now in
    let d = c.in_default-last in
    let seen = seen_last calls c.last-item.result c.last-item.result n c.in-len1-up.len_at_least c.last-item.is refl in
    c.is_file-in_default-last.ensures ∙ sym (ap is_some seen ∙ other_calls c.last-item.result d.not-Create d.not-Rename d.not-Remove (viewed (take (length calls - 1) calls) no_file) n)
