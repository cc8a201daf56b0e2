use Rattle.std.proofs.Common.{◌≡◌, ◌+◌, ◌++◌, ap, arith, length, length-append, refl}
use Rattle.line_filters.specs.declared.held.Held.{Held}
use Rattle.line_filters.proofs.lemmas.KeptLaws.{counted_longer, counted_same, few_kept, few_bytes}
use Rattle.line_filters.proofs.lemmas.KeptLaws.{kept_longer, later_same}
use Rattle.line_filters.proofs.lemmas.SizedLaws.{sized_last, sized_same}
use Rattle.line_filters.proofs.kept.Kept.lengthen.Goals as goal

pub invariant_of-self : goal.invariant_of-self
invariant_of-self c =
    let k = c.args.self.now in
    let last : Held = record { bytes = c.extend_from_slice.new.self; amount = k.last.amount } in
    record {
      right = counted_same k.counted k.full.items k.last last k.amount k.incomplete k.right
          c.in_err-extend_from_slice.ensures.items refl;
      sized = sized_same k.longest.bytes k.full.items k.last last k.sized
          c.in_err-extend_from_slice.ensures.items;
    }

pub overflow_add-self-2 : goal.overflow_add-self-2
overflow_add-self-2 c =
    let k = c.args.self.now in
    let all = few_kept k.counted k.full.items k.last k.amount k.incomplete k.right
    (omega (arith, k.full.ok, k.full.small)) in
    let more = few_bytes k.counted c.args.amount c.args.more.now c.requires.amount in
    omega (arith, all, more, c.from.ensures)

pub invariant_of-self-2 : goal.invariant_of-self-2
invariant_of-self-2 c =
    let k = c.args.self.now in
    let last : Held = record {
      bytes = c.extend_from_slice.new.self;
      amount =
          k.last.amount + c.args.amount;
    } in
    let longer : last.bytes.items ≡ k.last.bytes.items ++ c.args.more.now =
    c.in_ok-extend_from_slice.ensures.items in
    record {
      right = counted_longer k.counted k.full.items k.last last c.args.more.now k.amount
          (k.amount + c.from.result) c.args.amount k.incomplete c.args.incomplete k.right longer
          refl c.requires.amount (omega (arith, c.from.ensures)) c.requires.some
          c.requires.incomplete;
      sized = sized_last k.longest.bytes k.full.items k.last last k.sized
          (omega (
            arith,
            ap length longer,
            length-append k.last.bytes.items c.args.more.now,
            c.requires.few,
          ));
    }

pub returns-clause-kept : goal.returns-clause-kept
returns-clause-kept c =
    let k = c.args.self.now in
    let last : Held = record {
      bytes = c.extend_from_slice.new.self;
      amount =
          k.last.amount + c.args.amount;
    } in
    kept_longer k.full.items k.last last c.args.more.now (c.in_ok-extend_from_slice.ensures.items)

pub returns-in_err-extend_from_slice-clause-refused :
    goal.returns-in_err-extend_from_slice-clause-refused
returns-in_err-extend_from_slice-clause-refused c =
    let k = c.args.self.now in
    let last : Held = record { bytes = c.extend_from_slice.new.self; amount = k.last.amount } in
    λ _. later_same k.full.items k.last last c.in_err-extend_from_slice.ensures.items
