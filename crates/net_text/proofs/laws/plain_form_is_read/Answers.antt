-- The law is a lemma.
use Rattle.net_text.proofs.NetworksBack.{plain_forms_read}
use Rattle.net_text.proofs.laws.plain_form_is_read.Goals as goal

pub returns : goal.returns
returns c = plain_forms_read
