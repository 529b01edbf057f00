use Rattle.host.proofs.Laying.{head_bytes}
use Rattle.host.proofs.bytes.head_of.Goals as goal

pub returns : goal.returns
returns c = head_bytes _ _ _ _ _ _ _ c.to_le_bytes.ensures c.to_le_bytes-2.ensures
