-- `band`: antt computes that the table is right.
use native.Mathlib.Omega.{arith}
use Rattle.readings.specs.declared.bands.TheConstants.{BANDS}
use Rattle.readings.proofs.BandTable.{table_band}
use Rattle.readings.proofs.bands.band.Goals as goal

pub returns : goal.returns
returns c =
    let right = table_band BANDS c.args.b (omega arith) tt in
    (right, omega arith)
