-- The names that most proofs of this crate cite, passed on from one place. Declares nothing.
pub use Rattle.rd_tables.specs.Asked.{AreRising, IsListed, IsPicked, IsStart, asks_of, at_most, picked, rising}
pub use Rattle.rd_tables.specs.Queries.{all_checks_query, all_checks_text, all_deeds_query, all_deeds_text, all_files_query, all_files_text, all_images_query, all_keys_query, all_keys_text, all_marks_query, all_marks_text, all_rules_query, all_rules_text, audience_query, audience_text, batch_query, batch_text, deed_query, file_query, file_text, files_query, files_text, first_images_text, image_query, keys_query, keys_text, later_images_query, marks_query, next_images_text, placed_rules_query, placed_rules_text, rules_query, rules_text, version_query, version_text}
pub use Rattle.rd_tables.specs.Schemas.{TellsVersion, are_desk_columns, badge_index, badge_key, badge_table, checked_index, checked_key, checked_table, deed_table, desk_schema, desk_table, desk_with, found_index, found_key, found_table, has_tree, image_table, is_named_desk, marks_table, rule_index, rule_key, rule_table, tells_version}
pub use Rattle.rd_tables.specs.Spellings.{HaveRowids, IsSpelled, SpellLawful, Spelling, Spells, entry_of, map_of}
pub use Rattle.rd_tables.specs.Statements.{badge_text, by_checkup, by_digest, by_number, by_place, checked_text, create_texts, deed_text, deed_then, desk_text, drop_check, drop_check_text, drop_key, drop_key_text, drop_rule, drop_rule_text, found_text, image_text, marks_text, put_check, put_check_text, put_deed, put_deed_text, put_file, put_file_text, put_image, put_image_text, put_key, put_key_text, put_marks, put_marks_text, put_rule, put_rule_text, put_version, put_version_text, rowids_of, rule_text, schema_after, set_deed, set_deed_text, set_version, set_version_text, version_then}
pub use Rattle.sqlite.proofs.Callers.{IsPlain, command_of, never_commits, one_permutation, one_step, reads_as, runs_as, statement_of}
pub use Rattle.sqlite.specs.Cast.{cast, cast_row}
pub use Rattle.sqlite.specs.Collation.TheVariants.{Binary}
pub use Rattle.sqlite.specs.Command.{Command}
pub use Rattle.sqlite.specs.Command.TheVariants.{Begin, Commit, CreateIndex, CreateTable, CreateView, Delete, DropIndex, DropTable, DropView, Insert, InsertOr, Nothing, Release, Rollback, RollbackTo, Rows, Savepoint, Select, Update}
pub use Rattle.sqlite.specs.Does.{Concludes, Does, Tally, lacks_sequence}
pub use Rattle.sqlite.specs.Edit.{Edit, IsNoIndex, edit_of, is_taken, next_rowid, taken_by, with_rowid, without_all}
pub use Rattle.sqlite.specs.Effect.{Database, IsDatabase, value_rows}
pub use Rattle.sqlite.specs.Listing.{reads_listing}
pub use Rattle.sqlite.specs.Order.{Row, value_cmp}
pub use Rattle.sqlite.specs.Program.{overlay}
pub use Rattle.sqlite.specs.Query.{IsAnswer, Output, Query, key_cmp, output, output_cmp}
pub use Rattle.sqlite.specs.Rowids.TheVariants.{Chosen, Given}
pub use Rattle.sqlite.specs.Rows.{Counts, Deletes, Edited, Inserts, Task, Updates, Written, count_of, rowids_for, stamped}
pub use Rattle.sqlite.specs.Schema.{Schema}
pub use Rattle.sqlite.specs.State.{CommitsShowing, Executes, ExecutesInside, FailsToShow, IsRolledBack, IsUnchanged, KeepsCommit, MayCommit, Runs, ShowsRows, State, Survives, Writes, shows_rows}
pub use Rattle.sqlite.specs.Table.{Table}
pub use Rattle.sqlite.specs.Term.{Term}
pub use Rattle.sqlite.specs.Tree.{Trees, has_rowid, put_row, rowid, without_rowid}
pub use Rattle.sqlite.specs.Values.{or_null}
pub use Rattle.sqlite.specs.declared.error.Error.{Error}
pub use Rattle.sqlite.specs.declared.run.Mode.{Mode}
pub use Rattle.sqlite.specs.declared.types.Value.{Value}
pub use Rattle.sqlite.specs.declared.types.Value.TheVariants.{Blob, Int, Null, Real, Text}
pub use Rattle.sqlite_rules.proofs.ListLemmas.{all_has, contains_had, has_contained, has_filtered, has_kept, some_from, some_has}
pub use Rattle.sqlite_rules.specs.Action.{works}
pub use Rattle.sqlite_rules.specs.Calls.{ids_of}
pub use Rattle.sqlite_rules.specs.Edit.{id_in}
pub use Rattle.sqlite_rules.specs.Lists.{Has}
pub use Rattle.sqlite_schema.specs.Names.{column_named, is_key, place_of}
pub use Rattle.sqlite_schema.specs.Rules.{Keeps, agree, clashes, differ, equal, guards}
pub use Rattle.sqlite_schema.specs.declared.command.Returning.{Returning}
pub use Rattle.sqlite_schema.specs.declared.schema.Keys.TheVariants.{Enforced}
pub use Rattle.sqlite_sql.specs.Ops.{from_truth, is_true}
pub use Rattle.sqlite_sql.specs.Term.{Env, col, eval_all, holds, lit}
pub use Rattle.sqlite_trees.proofs.ListLemmas.{IsPermutation-filter, filter-filter, filter_all}
pub use Rattle.sqlite_trees.specs.View.{is_int}
pub use Rattle.sqlite_value.proofs.OrderLemmas.{then-Equal, value_cmp-Blob, value_cmp-Int, value_cmp-Null, value_cmp_total}
pub use Rattle.sqlite_value.specs.Keys.{by_key, collated, directed, plain}
pub use Rattle.sqlite_value.specs.declared.keys.Key.{Key}
pub use Rattle.std.proofs.Common.{All, Bool, Equal, Err, Greater, IsSome, IsTrue, Less, List, None, Ok, Option, Ordering, Result, Some, T, [], ap, ap₂, arith, codes, cond, drop, eq-eqb, eqb-true, false, filter, get_or, inl, inr, int_cmp, int_lt, is_eq, is_lt, is_ok, length, map, nat_cmp, nat_le, nat_lt, negsuc, not, option_to_list, pos, refl, reverse, set, slice_get, subst, subst₂, suc, sym, take, true, true≢false, zero, ℕ, ℤ, ◌&&◌, ◌++◌, ◌+◌, ◌-◌, ◌/◌, ◌<◌, ◌==◌, ◌^◌, ◌||◌, ◌∙◌, ◌∷◌, ◌≡◌, ◌≢◌, ◌≤◌, ◌⊎◌}
pub use Rattle.std.proofs.Math.ListN.{get_or-map}
pub use Rattle.std.proofs.lemmas.Bool.{and_parts, cases_Bool, cases_order, false_from_ne_true}
pub use Rattle.std.proofs.lemmas.Bool.Decides.{nat_tests}
pub use Rattle.std.proofs.lemmas.Cmp.{eq_by_cmp_equiv, int_cmp_total, nat_list_cmp_total, tied_back, tied_itself}
pub use Rattle.std.proofs.lemmas.List.{append-nil, get_or-reverse, get_or_append_left, get_or_push, length-map, length-reverse, length_push, map-append, map-set, reverse-reverse, take-map, take-take}
pub use Rattle.std.proofs.lemmas.List.Elements.{All-from_recursion, recursion_from_All}
pub use Rattle.std.proofs.lemmas.List.Sorted.{All-permutation, Contains-permutation, IsPermutation-cons, IsPermutation-map, IsPermutation-middle, IsPermutation-pop_more, IsPermutation-refl, IsPermutation-reverse, IsPermutation-sym, IsPermutation-trans, length_permutation}
pub use Rattle.std.proofs.lemmas.Map.Keys.{IsDistinct-IsPermutation, IsDistinct-cons, IsDistinct-from_sorted, IsDistinct-head, IsDistinct-tail, apart_from_distinct, sorted_from_all_adjacent, sorted_head, sorted_tail}
pub use Rattle.std.proofs.lemmas.Map.Made.{IsDistinct-keys_filter}
pub use Rattle.std.specs.FinMap.{FinMap, IsAntisymmetric, entries, entries_sorted, from_entries, get, get-entries, get-from_entries, get-insert, get-remove, get-retain_keys, insert, remove, retain_keys, same_map}
pub use Rattle.std.specs.FinMap.Entries.{below_all, find, find-where_key, is_sorted, is_sorted-where_key, same_entries, where_key}
pub use Rattle.std.specs.List.{AllByRecursion, flat_map, list_all, list_any, position_from, swap}
pub use Rattle.std.specs.List.Sorted.{IsPartitionPoint, IsPartitionedBy, IsPermutation, IsSorted, SwapsInRange, apply_swaps}
pub use Rattle.std.specs.Ordering.{eq_by_cmp, is_ge, is_gt, is_le, is_ne, match_ordering, ordering_reverse, ordering_then}
