use Rattle.encode.proofs.BegunLaws.{begun-front, begun_all}
use Rattle.encode.proofs.encode.Goals as goal

pub put_records-requires : goal.put_records-requires
put_records-requires c = begun-front c.args.t c.put_header.new.block c.put_values.new.block c.put_header.ensures c.put_values.ensures

pub returns : goal.returns
returns c = let records = c.put_records in
    let values = c.put_values-2 in
    begun_all c.args.t records.new.block values.new.block c.put_check.new.block records.ensures values.ensures c.put_check.ensures
