use Rattle.lab_data.proofs.Orders.{each_processor_comes_once}
use Rattle.lab_data.proofs.data_laws.each_processor_comes_once.Goals as goal

pub returns : goal.returns
returns c = each_processor_comes_once
