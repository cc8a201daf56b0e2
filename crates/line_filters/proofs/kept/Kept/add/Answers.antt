use Rattle.std.proofs.Common.{◌≡◌, ◌∙◌, ◌++◌, ◌∷◌, [], ℕ, List, length, ap, sym, subst, arith}
use Rattle.line_filters.specs.declared.held.Held.{Held}
use Rattle.line_filters.specs.KeptParts.{AreSized, amount_of, ends_open, kept_bytes}
use Rattle.line_filters.proofs.lemmas.KeptLaws.{counted_more, counted_same, few_kept, few_bytes}
use Rattle.line_filters.proofs.lemmas.KeptLaws.{held-push, kept_same}
use Rattle.line_filters.proofs.lemmas.SizedLaws.{sized_push, sized_same}
use Rattle.line_filters.proofs.kept.Kept.add.Goals as goal

pub overflow_add-self : goal.overflow_add-self
overflow_add-self c =
    let k = c.args.self.now in
    let all = few_kept k.counted k.full.items k.last k.amount k.incomplete k.right
    (omega (arith, k.full.ok, k.full.small)) in
    let more = few_bytes k.counted c.args.amount c.args.more.now c.requires.amount in
    omega (arith, all, more, c.from.ensures)

pub invariant_of-self-2 : goal.invariant_of-self-2
invariant_of-self-2 c =
    let k = c.args.self.now in
    let last = c.replace-last.result in
    let more = c.replace-last.new.dest in
    let last_bytes : last.bytes.items ≡ k.last.bytes.items =
    ap (λ (h : Held). h.bytes.items) c.replace-last.ensures.value
    ∙ c.give_back_room.ensures.bytes in
    let last_amount : last.amount ≡ k.last.amount =
    ap (λ (h : Held). h.amount) c.replace-last.ensures.value
    ∙ c.give_back_room.ensures.amount in
    let more_bytes : more.bytes.items ≡ c.args.more.now =
    ap (λ (h : Held). h.bytes.items) c.replace-last.ensures.after
    ∙ c.in_ok-more.ensures.bytes in
    let more_amount : more.amount ≡ c.args.amount =
    ap (λ (h : Held). h.amount) c.replace-last.ensures.after ∙ c.in_ok-more.ensures.amount in
    let items : c.push_back_reserved.new.self.items ≡ k.full.items ++ last ∷ [] =
    ◌∙◌ {A = List Held} c.push_back_reserved.ensures.items
    (ap (λ (x : List Held). x ++ last ∷ []) c.in_ok-reserve.ensures.items) in
    let ending : c.args.incomplete ≡ ends_open more.bytes.items = c.requires.incomplete
    ∙ ap ends_open (sym more_bytes) in
    record {
      right = counted_more k.counted (k.full.items ++ last ∷ [])
          (c.push_back_reserved.new.self.items ++ more ∷ []) k.amount _ k.incomplete
          c.args.incomplete more
          (counted_same k.counted k.full.items k.last last k.amount k.incomplete k.right last_bytes
          last_amount)
          (omega (arith, more_amount, c.requires.amount, ap (amount_of k.counted) more_bytes))
          (omega (arith, c.from.ensures, more_amount))
          (omega (arith, c.requires.some, ap length more_bytes)) ending
          (ap (λ (x : List Held). x ++ more ∷ []) items);
      sized = subst (λ (x : List Held). AreSized k.longest.bytes (x ++ more ∷ [])) (sym items)
          (sized_push k.longest.bytes (k.full.items ++ last ∷ []) more
          (sized_same k.longest.bytes k.full.items k.last last k.sized last_bytes)
          (omega (arith, ap length more_bytes, c.requires.longest)));
    }

pub returns-clause-kept : goal.returns-clause-kept
returns-clause-kept c =
    let k = c.args.self.now in
    let last = c.replace-last.result in
    let more = c.replace-last.new.dest in
    let last_bytes : last.bytes.items ≡ k.last.bytes.items =
    ap (λ (h : Held). h.bytes.items) c.replace-last.ensures.value
    ∙ c.give_back_room.ensures.bytes in
    let more_bytes : more.bytes.items ≡ c.args.more.now =
    ap (λ (h : Held). h.bytes.items) c.replace-last.ensures.after
    ∙ c.in_ok-more.ensures.bytes in
    let items : c.push_back_reserved.new.self.items ≡ k.full.items ++ last ∷ [] =
    ◌∙◌ {A = List Held} c.push_back_reserved.ensures.items
    (ap (λ (x : List Held). x ++ last ∷ []) c.in_ok-reserve.ensures.items) in
    ap (λ (x : List Held). kept_bytes x more) items
    ∙ (held-push (k.full.items ++ last ∷ []) more
    ∙ (ap (λ (x : List ℕ). x ++ more.bytes.items) (kept_same k.full.items k.last last last_bytes)
    ∙ ap (λ (x : List ℕ). kept_bytes k.full.items k.last ++ x) more_bytes))
