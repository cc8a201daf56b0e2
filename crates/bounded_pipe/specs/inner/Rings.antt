-- What the two ends of a pipe have recorded, read off the three rings that it is made of: one of
-- items, from the writer to the reader, one of marks and one of numbers, from the reader to the
-- writer; and from the items that were taken before the pipe got these rings. Items put and items
-- taken begin with those.
use Rattle.std.specs.Prelude.{◌≡◌, ℕ, List, [], ◌++◌, Bool, length, sum}
use Rattle.std.specs.declared.alloc.Global.{Global}
use Rattle.rtrb.specs.declared.producer.Producer.{Producer}
use Rattle.rtrb.specs.declared.consumer.Consumer.{Consumer}
use Rattle.rtrb.specs.declared.AnyItems.{AnyItems}
use Rattle.rtrb.specs.Ring.{sent, known_free, producer_capacity, received, known_items, IsPair}
use Rattle.machine.specs.declared.piece.Item.{Item}
use Rattle.bounded_pipe.specs.Names.{ring_name}
use Rattle.bounded_pipe.specs.Ends.{Writing, Reading}

-- The two ends of one ring, through which nothing went yet.
pub record IsUnused {T : Type 0} (putter : Producer T Global AnyItems)
    (taker : Consumer T Global AnyItems) : Type 0 where
  pub pair : IsPair putter taker
  pub nothing_sent : sent putter ≡ []
  pub nothing_received : received taker ≡ []

module _ {Mark : Type 0} where
  -- what the writing end has recorded: it pushes items, and pops marks and numbers
  abbrev pub writing : Producer Item Global AnyItems → Consumer Mark Global AnyItems
      → Consumer ℕ Global AnyItems → ℕ → ℕ → List Item → Bool → Writing
  writing items marks numbers limit count before noted = record {
    pipe =
        record {
          items = ring_name items.end;
          marks = ring_name marks.end;
          numbers = ring_name numbers.end;
          before = before;
        };
    capacity = producer_capacity items;
    limit = limit;
    put = before ++ sent items;
    free = known_free items;
    noted = noted;
    pending = length (known_items marks);
    count = count;
    heard = sum (received numbers);
  }

  -- what the reading end has recorded: it pops items, and pushes marks and numbers
  abbrev pub reading : Consumer Item Global AnyItems → Producer Mark Global AnyItems
      → Producer ℕ Global AnyItems → ℕ → List Item → Bool → Reading
  reading items marks numbers untold before hung_up = record {
    pipe =
        record {
          items = ring_name items.end;
          marks = ring_name marks.end;
          numbers = ring_name numbers.end;
          before = before;
        };
    taken = before ++ received items;
    known = known_items items;
    hung_up = hung_up;
    untold = untold;
    told = sum (sent numbers);
  }
