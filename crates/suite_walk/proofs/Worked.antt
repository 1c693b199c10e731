-- The worked cases are right.
use mathlib.Core.Path.{refl}
use Rattle.lists.specs.Below.{first_from}
use Rattle.lists.specs.Filled.{up_to}
use Rattle.table.specs.Events.{event, kind, location, reads, writes, memory, po}
use Rattle.checksum.specs.Checksum.{weighted_from, checksum}
use Rattle.decode.specs.Layout.{edition_of}
use Rattle.decode.specs.Decoded.{event_at, initial_of, final_of, headed, decoded_as, decoded}
use Rattle.zero_bytes.specs.ZeroBytes.{not_zero, bytes_not_zero}
use Rattle.suite_part.specs.Part.{block_of}
use Rattle.refusals.specs.Lines.{first_line}
use Rattle.refusals.specs.TableLines.{missing, states_missing, header_wrong, line5, initial_not_zero, final_not_zero, blank, past_not_blank, line6}
use Rattle.refusals.specs.TableLines.{field_out_of_range, value_not_zero, fence_not_zero, operation_out_of_range, operand_not_zero, not_applied, shape_wrong, fields_wrong, line7}
use Rattle.refusals.specs.TableLines.{both_at_once, load_releases, writer_acquires, annotations_wrong, line8, names, names_wrongly, data_of_non_writer, lacks_control, line9}
use Rattle.refusals.specs.TableLines.{line10, line11, touched, line21, record_lines_by, record_lines, table_lines_by, table_lines}
use Rattle.block.specs.Reading.{header_lines, length_lines, edition_lines, reading_lines, read_refusal}
use Rattle.suite_walk.specs.Tests.{begins_two, test_of, good_two, next_block, tests_from}
use Rattle.suite_walk.specs.Worked.{Every, worked}

pub right : Every worked
unfolding first_from up_to event kind location reads writes memory po weighted_from checksum edition_of event_at initial_of final_of headed decoded_as decoded not_zero bytes_not_zero block_of first_line missing states_missing header_wrong line5 initial_not_zero final_not_zero blank past_not_blank line6 field_out_of_range value_not_zero fence_not_zero operation_out_of_range operand_not_zero not_applied shape_wrong fields_wrong line7 both_at_once load_releases writer_acquires annotations_wrong line8 names names_wrongly data_of_non_writer lacks_control line9 line10 line11 touched line21 record_lines_by record_lines table_lines_by table_lines header_lines length_lines edition_lines reading_lines read_refusal begins_two test_of good_two next_block tests_from
right = (refl, (refl, (refl, (refl, (refl, (refl, (refl, (refl, (refl, (refl, tt))))))))))
