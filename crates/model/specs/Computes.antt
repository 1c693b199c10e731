-- One name that opens every definition, for proofs by computation.
use Rattle.std.proofs.Math.Bool.{xor}
use Rattle.lists.specs.Below.{first_from, up_from}
use Rattle.lists.specs.Filled.{up_to}
use Rattle.table.specs.Events.{event, kind, hart, location, reads, writes, memory, same_location, po, between, reserves, paired, memory_events, memory_count}
use Rattle.table.specs.Annotations.{flags, ztso, annotations, acquire, release, rcsc, address_depends, data_depends, control_depends}
use Rattle.masks.specs.MaskOf.{mask_of}
use Rattle.operation.specs.Operation.{anded, ored, xored, larger, smaller, applied}
use Rattle.refusals.specs.Lines.{first_line}
use Rattle.refusals.specs.TableLines.{missing, states_missing, header_wrong, line5, initial_not_zero, final_not_zero, blank, past_not_blank, line6}
use Rattle.refusals.specs.TableLines.{field_out_of_range, value_not_zero, fence_not_zero, operation_out_of_range, operand_not_zero, not_applied, shape_wrong, fields_wrong, line7, value_stated, text_line7}
use Rattle.refusals.specs.TableLines.{both_at_once, load_releases, writer_acquires, annotations_wrong, line8, names, names_wrongly, data_of_non_writer, lacks_control, line9}
use Rattle.refusals.specs.TableLines.{paired_here, line10, line11, touched, line21, record_lines_by, record_lines, table_lines_by, table_lines}
use Rattle.prefixes.specs.Listed.{extensions}
use Rattle.prefixes.specs.Answer.{answer}
use Rattle.model.specs.Rules.{from, rule1, rule2, rule3, fence_orders, tso_orders, rule4, rule5, rule6, rule7, rule8, rule9, rule10, rule11, rule12, rule13, may_order, rules, static_rules, ppo, static_ppo, rule_set}
use Rattle.model.specs.Returns.{visible, return_of, return_entry, returns, initial_value, written_value, final_value}
use Rattle.model.specs.Axioms.{breaks_ppo, breaks_load_value, write_is_late, intrudes, breaks_pair, breaks_atomicity, atomicity_writer, breaks_value_read, breaks_final_value, preserved_order, load_value, atomicity, values_read, final_values}
use Rattle.model.specs.Witness.{is_memory_event, is_order, lawful, witness_for, stated_outcome, witness}
use Rattle.model.specs.Verdict.{verdict}
use Rattle.model.specs.Prefixes.{is_prefix, predecessors_listed, clean, clean_prefixes, search_by, search, orders, witnesses}
use Rattle.model.specs.Settled.{unlisted_own, listed_writer, settled, misreads, spoiled, unpruned, unpruned_prefixes, search_pruned}
use Rattle.model.specs.Following.{leaves_within, leaves, returned_value, end_value, meets, names_unknown, names_location}

unfoldable pub computes : Unit {0}
unfolding first_from up_from up_to event kind hart location reads writes memory same_location po between reserves paired memory_events memory_count flags ztso annotations acquire release rcsc address_depends data_depends control_depends mask_of xor anded ored xored larger smaller applied first_line missing states_missing header_wrong line5 initial_not_zero final_not_zero blank past_not_blank line6 field_out_of_range value_not_zero fence_not_zero operation_out_of_range operand_not_zero not_applied shape_wrong fields_wrong line7 value_stated text_line7 both_at_once load_releases writer_acquires annotations_wrong line8 names names_wrongly data_of_non_writer lacks_control line9 paired_here line10 line11 touched line21 record_lines_by record_lines table_lines_by table_lines extensions answer from rule1 rule2 rule3 fence_orders tso_orders rule4 rule5 rule6 rule7 rule8 rule9 rule10 rule11 rule12 rule13 may_order rules static_rules ppo static_ppo rule_set visible return_of return_entry returns initial_value written_value final_value breaks_ppo breaks_load_value write_is_late intrudes breaks_pair breaks_atomicity atomicity_writer breaks_value_read breaks_final_value preserved_order load_value atomicity values_read final_values is_memory_event is_order lawful witness_for stated_outcome witness verdict is_prefix predecessors_listed clean clean_prefixes search_by search orders witnesses unlisted_own listed_writer settled misreads spoiled unpruned unpruned_prefixes search_pruned leaves_within leaves returned_value end_value meets names_unknown names_location
computes = tt
