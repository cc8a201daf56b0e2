use Rattle.std.proofs.Common.{false, refl}
use Rattle.byte_filters.proofs.lemmas.WcMoves.{wc_new}
use Rattle.byte_filters.proofs.wc.Wc.new.Goals as goal

pub returns : goal.returns
returns c =
    wc_new (record {
      alloc = c.args.alloc;
      spec = c.in_ok-copied.field-0;
      inputs =
          c.in_ok-new.field-0;
      counts = c.nothing.result;
      in_word = false;
      sums = c.nothing-2.result;
    })
    c.args.spec.now c.args.inputs.now c.in_ok-copied.ensures c.in_ok-new.ensures c.nothing.ensures
    refl c.nothing-2.ensures c.requires
