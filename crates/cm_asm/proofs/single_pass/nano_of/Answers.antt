use Rattle.std.proofs.Common.{refl}
use Rattle.cm_asm.proofs.single_pass.nano_of.Goals as goal

pub returns : goal.returns
returns c = record {
  a_within = c.in_ok-address_of.ensures.within;
  b_within = c.in_ok-address_of-2.ensures.within;
  read_within = c.in_ok-flag_of.ensures.within;
  write_within = c.in_ok-flag_of-2.ensures.within;
  cond_within = c.in_ok-flag_of-3.ensures.within;
  sense_within = c.in_ok-sense_of.ensures.within;
  mem_table_within = c.in_ok-table_of.ensures.within;
  flag_table_within = c.in_ok-table_of-2.ensures.within;
  is = rw (
    c.in_ok-address_of.ensures.value,
    c.in_ok-address_of-2.ensures.value,
    c.in_ok-flag_of.ensures.value,
    c.in_ok-flag_of-2.ensures.value,
    c.in_ok-flag_of-3.ensures.value,
    c.in_ok-sense_of.ensures.value,
    c.in_ok-table_of.ensures.value,
    c.in_ok-table_of-2.ensures.value,
  ) refl;
}
