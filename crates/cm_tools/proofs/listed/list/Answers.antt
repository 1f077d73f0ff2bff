use Rattle.std.proofs.Common.{Ok, Err}
use Rattle.cm_system.specs.declared.program_fault.ProgramFault.TheVariants.{Write}
use Rattle.cm_tools.proofs.Listing.{heard_in_part, known_in_part, refused, known}
use Rattle.cm_tools.proofs.listed.list.Goals as goal

pub returns-in-Err-clause-ends : goal.returns-in-Err-clause-ends
returns-in-Err-clause-ends g c =
    known_in_part (g.I.Source.left c.args.source.now) (g.O.Sink.contents c.args.sink.now) c.in-Err.fault _ c.from.ensures
    c.in-Err.ensures.too_much

pub returns-in-Err-clause-heard : goal.returns-in-Err-clause-heard
returns-in-Err-clause-heard g c =
    heard_in_part (g.I.Source.left c.args.source.now) (g.I.Source.left c.take.new.source)
    (g.O.Sink.contents c.args.sink.now) c.in-Err.fault _ c.from.ensures c.in-Err.ensures.read_within
    c.in-Err.ensures.memory_within c.in-Err.ensures.too_much_came

pub returns-in-Err-listing_of-clause-ends : goal.returns-in-Err-listing_of-clause-ends
returns-in-Err-listing_of-clause-ends g c =
    known (g.I.Source.left c.args.source.now) (g.I.Source.left c.take.new.source) c.in-Ok.text.items
    (g.O.Sink.contents c.args.sink.now) (g.O.Sink.contents c.args.sink.now) (Err c.in-Err-listing_of.fault)
    c.in-Ok.ensures.ok c.in-Ok.ensures.end
    (refused _ _ c.in-Err-listing_of.fault c.in-Ok.ensures.within
    (rw c.as_slice.ensures.value at c.in-Err-listing_of.ensures.value))

pub returns-in-Err-listing_of-clause-heard : goal.returns-in-Err-listing_of-clause-heard
returns-in-Err-listing_of-clause-heard g c = record {
  text = c.in-Ok.text.items;
  read = c.in-Ok.ensures.ok;
  ends = refused _ _ c.in-Err-listing_of.fault c.in-Ok.ensures.within
      (rw c.as_slice.ensures.value at c.in-Err-listing_of.ensures.value);
}

pub returns-in-Ok-write_all-clause-ends : goal.returns-in-Ok-write_all-clause-ends
returns-in-Ok-write_all-clause-ends g c =
    known (g.I.Source.left c.args.source.now) (g.I.Source.left c.take.new.source) c.in-Ok.text.items
    (g.O.Sink.contents c.args.sink.now) (g.O.Sink.contents c.write_all.new.sink) (Ok tt)
    c.in-Ok.ensures.ok c.in-Ok.ensures.end
    (record {
      within = c.in-Ok.ensures.within;
      bytes = c.in-Ok-listing_of.listing.items;
      is = rw c.as_slice.ensures.value at c.in-Ok-listing_of.ensures.value;
      written = rw c.as_slice-2.ensures.value at c.in-Ok-write_all.ensures.ok;
    })

pub returns-in-Ok-write_all-clause-heard : goal.returns-in-Ok-write_all-clause-heard
returns-in-Ok-write_all-clause-heard g c = record {
  text = c.in-Ok.text.items;
  read = c.in-Ok.ensures.ok;
  ends = record {
    within = c.in-Ok.ensures.within;
    bytes = c.in-Ok-listing_of.listing.items;
    is = rw c.as_slice.ensures.value at c.in-Ok-listing_of.ensures.value;
    written = rw c.as_slice-2.ensures.value at c.in-Ok-write_all.ensures.ok;
  };
}

pub returns-clause-ends : goal.returns-clause-ends
returns-clause-ends g c =
    known (g.I.Source.left c.args.source.now) (g.I.Source.left c.take.new.source) c.in-Ok.text.items
    (g.O.Sink.contents c.args.sink.now) (g.O.Sink.contents c.write_all.new.sink) (Err Write)
    c.in-Ok.ensures.ok c.in-Ok.ensures.end
    (record {
      within = c.in-Ok.ensures.within;
      bytes = c.in-Ok-listing_of.listing.items;
      is = rw c.as_slice.ensures.value at c.in-Ok-listing_of.ensures.value;
      front = record {
        count = c.in-Err-write_all.field-0.0;
        short = rw c.as_slice-2.ensures.value at c.in-Err-write_all.ensures.err.0;
        written = rw c.as_slice-2.ensures.value at c.in-Err-write_all.ensures.err.1;
      };
    })

pub returns-clause-heard : goal.returns-clause-heard
returns-clause-heard g c = record {
  text = c.in-Ok.text.items;
  read = c.in-Ok.ensures.ok;
  ends = record {
    within = c.in-Ok.ensures.within;
    bytes = c.in-Ok-listing_of.listing.items;
    is = rw c.as_slice.ensures.value at c.in-Ok-listing_of.ensures.value;
    front = record {
      count = c.in-Err-write_all.field-0.0;
      short = rw c.as_slice-2.ensures.value at c.in-Err-write_all.ensures.err.0;
      written = rw c.as_slice-2.ensures.value at c.in-Err-write_all.ensures.err.1;
    };
  };
}
