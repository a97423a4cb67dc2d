use Rattle.std.proofs.Common.{rules}
use Rattle.wire.specs.Bytes.{Bytes}
use Rattle.line.proofs.Fits.{entry_fits}
use Rattle.dump.proofs.put_entry.Goals as goal

pub returns : goal.returns
returns c = let bytes : Bytes c.args.datagram.now = λ i. (c.type_inv.datagram i).fits in
    record { put = rw (← c.parse-reading.ensures) c.put_line.ensures; datagram_len_bound = entry_fits c.args.n c.args.datagram.now (search rules) bytes }
