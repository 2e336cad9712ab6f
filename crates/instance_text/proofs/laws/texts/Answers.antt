use Rattle.instance_text.proofs.ReadBack.{own_text_means}
use Rattle.instance_text.proofs.Lengths.{own_text_short}
use Rattle.instance_text.proofs.laws.texts.Goals as goal

pub returns : goal.returns
returns c = record { read_back = own_text_means; short = own_text_short }
