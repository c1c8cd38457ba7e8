-- One name that opens every definition, so that an example computes.
use Rattle.packed.specs.Field.{bit, field_of, flag_of}
use Rattle.packed.specs.Bytes.{same}
use Rattle.csdl.specs.Search.{first_from, any_from, sum_from, tab, flat, all, some, but_last, last_or, is_empty, last_fails, sum_of}
use Rattle.csdl.specs.Climb.{climb, nearest, topmost, rounds, reaches}
use Rattle.csdl.specs.Model.{model_of, record_at}
use Rattle.csdl.specs.Find.{of_kind, structured, ancestor, ancestor_or_self, top, declares, own, find, is_name_of, complex_step, contain_step, integral, has_key}
use Rattle.csdl.specs.Path.{segment_at, resolves_at, moves_to, step_at, along_all, along_end, along, holders, path_of, start_of, kind_paths_with, paths_with, holder_of, step_in, by_holder, step_of_segment, properties, first_name, same_segments}
use Rattle.csdl.specs.Image.{model_in, image1, buffer2}
use Rattle.csdl.specs.Form.{rule3, name4, optional_name4, path4, optional_path4, reference4h, schema4, type4, property4, key4, constraint4, child4, binding4, segment4, rule4, is_digit, is_letter, is_word_byte, simple, dotted, name5a, namespace5b, alias5a, rule5, reserved, names_schema, shares_name, schema6, same_type, type7a, child7b, rule7}
use Rattle.csdl.specs.Types.{type8, type9}
use Rattle.csdl.specs.Properties.{is_stream, property10, same_name, redeclares, property11a, property11b, property11, required, required_step, type12}
use Rattle.csdl.specs.Paths.{segment13, unresolved_in, unresolved_of, unresolved, segment14, key_code, key_type, key_step, key_end, key_name, key15b, key15c, key15g, key15, constraint_step, broken_inner, constraint16b, same_shape, both_complex, other_shape, other_nullable, constraint16, other_contained, property17, property18a, child18, rule18, non_containment, binding19d, target_step, binding19}
use Rattle.csdl.specs.Verdict.{model_means, instance_means, walk_means, verdict, model_stages, model_verdict, model_answer, model_then, resolution, model_buffer}
use Rattle.csdl.specs.Naming.{name_held, record_name, name_of_record}
use Rattle.csdl.specs.Instance.{instance_of, instance_in, image20, instance_record_at}
use Rattle.csdl.specs.Conforms.{node21a, nodes_with, slots_with, count_unlike, slot21b, item21c, rule21, node22, slots_of, node23, slot24, slot_of_item, node_of_slot, is_null, carries_node, item25of, item25, holds_item, holds_node, node26, instance_stages, instance_then, instance_answer}
use Rattle.csdl.specs.Walk.{slot_named, item_at, contents, opening, after, passes, walked, opened, reaches_end, path_chosen, walk28, walk29, bytes_of_number, bytes_of_item, walk_results, walk_opened, walk_answer, result_bytes, walk_buffer}

unfoldable pub everything : Unit {0}
unfolding bit field_of flag_of same first_from any_from sum_from tab flat all some but_last last_or is_empty last_fails sum_of climb nearest topmost rounds reaches model_of record_at of_kind structured ancestor ancestor_or_self top declares own find is_name_of complex_step contain_step integral has_key segment_at resolves_at moves_to step_at along_all along_end along holders path_of start_of kind_paths_with paths_with holder_of step_in by_holder step_of_segment properties first_name same_segments model_in image1 buffer2 rule3 name4 optional_name4 path4 optional_path4 reference4h schema4 type4 property4 key4 constraint4 child4 binding4 segment4 rule4 is_digit is_letter is_word_byte simple dotted name5a namespace5b alias5a rule5 reserved names_schema shares_name schema6 same_type type7a child7b rule7 type8 type9 is_stream property10 same_name redeclares property11a property11b property11 required required_step type12 segment13 unresolved_in unresolved_of unresolved segment14 key_code key_type key_step key_end key_name key15b key15c key15g key15 constraint_step broken_inner constraint16b same_shape both_complex other_shape other_nullable constraint16 other_contained property17 property18a child18 rule18 non_containment binding19d target_step binding19 model_means instance_means walk_means verdict model_stages model_verdict model_answer model_then resolution model_buffer name_held record_name name_of_record instance_of instance_in image20 instance_record_at node21a nodes_with slots_with count_unlike slot21b item21c rule21 node22 slots_of node23 slot24 slot_of_item node_of_slot is_null carries_node item25of item25 holds_item holds_node node26 instance_stages instance_then instance_answer slot_named item_at contents opening after passes walked opened reaches_end path_chosen walk28 walk29 bytes_of_number bytes_of_item walk_results walk_opened walk_answer result_bytes walk_buffer
everything = tt
