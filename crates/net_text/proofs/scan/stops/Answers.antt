-- Each lane is tested.
use Rattle.net_text.proofs.Stops.{lanes_tested, mask_is}
use Rattle.net_text.proofs.scan.stops.Goals as goal

pub returns : goal.returns
returns c = mask_is c.args.lanes _ c.fits-lanes.0 c.fits-lanes.1 (lanes_tested c.args.lanes c.fits-lanes.0)
