-- The names that most proofs of this crate cite, passed on from one place. Declares nothing.
pub use Rattle.rd_geometry.specs.Blocks.{CBM_BLOCKS}
pub use Rattle.rd_geometry.specs.Kinds.{size_of}
pub use Rattle.rd_geometry.specs.declared.kind.Kind.{Kind}
pub use Rattle.rd_geometry.specs.declared.kind.Kind.TheVariants.{Cpm8, D64, D64e}
pub use Rattle.rd_holdings.proofs.Lawful.{lawful_check, lawful_deed, lawful_insert, lawful_key, lawful_no_key, lawful_no_rule, lawful_rule}
pub use Rattle.rd_holdings.proofs.RulesFor.{both_in_order}
pub use Rattle.rd_holdings.specs.Lawful.{IsDeed, IsDonor, IsImage, IsKey, IsLawful}
pub use Rattle.rd_holdings.specs.State.{Checkup, Desk, HasOtherImage, HasOtherStaff, IsLastStaff, Place, Stands, Terms, all_rules, band_code, checkup_cmp, digest_cmp, is_at, place_cmp, place_of, put_or_kept, registered, rule_of, rules_at, terms_of, with_check, with_deed, with_image, with_key, with_rule, without_check, without_key, without_rule}
pub use Rattle.rd_holdings.specs.declared.rows.DeedRow.{DeedRow}
pub use Rattle.rd_holdings.specs.declared.rows.ImageRow.{ImageRow}
pub use Rattle.rd_holdings.specs.declared.rows.Outcome.{Outcome}
pub use Rattle.rd_holdings.specs.declared.rows.Outcome.TheVariants.{Changed, Sound}
pub use Rattle.rd_policy.specs.Rules.{IsPlainText, IsScope, IsSelect}
pub use Rattle.rd_policy.specs.Verdicts.{AreInOrder}
pub use Rattle.rd_policy.specs.declared.audience.Audience.{Audience}
pub use Rattle.rd_policy.specs.declared.audience.Audience.TheVariants.{Public, Room, Staff}
pub use Rattle.rd_policy.specs.declared.rule.Band.{Band}
pub use Rattle.rd_policy.specs.declared.rule.Band.TheVariants.{Deed, Takedown}
pub use Rattle.rd_policy.specs.declared.rule.Effect.{Effect}
pub use Rattle.rd_policy.specs.declared.rule.Effect.TheVariants.{Deny, Read}
pub use Rattle.rd_policy.specs.declared.rule.Rule.{Rule}
pub use Rattle.rd_policy.specs.declared.select.Select.{Select}
pub use Rattle.rd_policy.specs.declared.select.Select.TheVariants.{Prefix, Slot, User}
pub use Rattle.rd_store.specs.Batched.{IsIndexed, IsIndexedBy, filed_shown, files_at, is_from_to, is_number_below, is_number_up_to}
pub use Rattle.rd_store.specs.Codes.{audience_code, audience_in, audiences_code, audiences_in, band_in, class_code, class_in, day_in, effect_code, effect_in, how, kind_code, kind_in, number, number_in, outcome_code, outcome_in, select_in, units_code, units_in, word}
pub use Rattle.rd_store.specs.Copied.{AndClean, AreHoldingsOf, Compares, IsCopied, IsNotCopied, KeepsOrStays, LeavesCopy, OpensCopy, TakesImage, TellsSame, numbered_check, with_checks, with_deeds, with_images, with_keys, with_rules}
pub use Rattle.rd_store.specs.Created.{HasFirstTables, LeavesOldOrNew, empty_desk, new_desk}
pub use Rattle.rd_store.specs.Held.{Changes, Holds, HoldsCommonTables, HoldsDesk, HoldsTables, IsAtRest, IsDeskAt, IsDeskWith, IsLeft, IsOf, Judges, Keeps, LacksImage, LeavesOnly, Reads, desk}
pub use Rattle.rd_store.specs.ImageCache.{IsAmong, IsLastOf}
pub use Rattle.rd_store.specs.Index.{AreFilesIn, FileAt, IsFileIn, IsFiledTo, IsIndexOf, file_cmp, with_new_image}
pub use Rattle.rd_store.specs.Latest.{check_shown, checks_after, checkup_shown, is_of}
pub use Rattle.rd_store.specs.Marks.{AreMarksIn, joined, kind_with, with_marks}
pub use Rattle.rd_store.specs.Migrated.{IsFirst, IsFirstConsistent, IsHalfway, IsHeldFirst, IsHeldIn, IsMigrated, IsNotMigrated, IsRegisterIn, IsSecondConsistent, LeavesOldOrMigrated, RefusesEach, first_desk}
pub use Rattle.rd_store.specs.Opened.{AreFiledUnder, AreKeys, AreListed, AreMarksOf, AreNumbers, Denied, HasDisk, HasDiskIf, HasFiles, HaveAccessions, HaveFiles, HaveOtherRowids, HoldsListed, HoldsMarksIf, IsCheckOf, IsConsistent, IsConsistentAs, IsFiledAt, IsHeld, IsImageOf, IsIndexAt, IsNamed, IsNoDesk, IsNotOpened, IsOpened, IsResting, IsRuleOf, IsSaid, IsSettledAt, Judged, JudgedPart, LawfulChecks, LawfulCommon, LawfulDeeds, LawfulFiles, LawfulGiven, LawfulImages, LawfulKeys, LawfulMarks, LawfulOthers, LawfulRules, NamesDesk, Refuses, Says, StandsAmong, StandsIn, Tests, TestsDatabase, TestsPart, image_among, image_if, is_among, listing_query, listing_text, listing_tree, marks_if}
pub use Rattle.rd_store.specs.Register.{HasRoomIn, IsPlaceIn, IsRegisterOf, IsSameHeading, entry_for, entry_in, listed, listed_in, number_of, numbered_accession, register_of}
pub use Rattle.rd_store.specs.RowColumns.{HasErrorBytes, HasParts, IsCheckRow, IsDeedRow, IsDonorAt, IsFileRow, IsFiledRow, IsImageRow, IsKeyRow, IsMarksRow, IsRuleRow, IsSelectAt, IsStaffRow, IsWordAt, ShowFiles, blob_name, comes_before, is_band, is_day, is_digest, is_number, is_one_of, is_size_of, is_some_day}
pub use Rattle.rd_store.specs.Ruled.{AreAllRules, is_below, is_up_to, side_of}
pub use Rattle.rd_store.specs.Shown.{IsOtherKey, ShowsOther, as_row, audience_shown, deed_shown, heading_of, image_shown, image_with, marks_shown}
pub use Rattle.rd_store.specs.Spelled.{HasVersion, HaveOwnRowids, SpellDesk, check_spelling, deed_spelling, desk_of, file_in, file_shown, file_spelling, image_spelling, images_of, index_of, key_spelling, later, marks_spelling, rule_spelling, unmarked}
pub use Rattle.rd_store.specs.Walked.{AreBatchOf, AreFiledOf, AreNextOf, AreReadNext, HasDiskOnce, HasFilesOnce, IsJudgedImage, IsLawfulAt, IsLawfulDisk, IsReadOf, IsWalk, IsWalkTo, LawfulCommonWalk, LawfulGivenWalk, LawfulWalk, SpellMarksIf, StandsOnce, image_columns, image_read, last_number}
pub use Rattle.rd_store.specs.declared.faults.OpenFault.{OpenFault}
pub use Rattle.rd_store.specs.declared.faults.OpenFault.TheVariants.{Inconsistent, NotADesk}
pub use Rattle.rd_store.specs.declared.faults.StoreFault.TheVariants.{Sql}
pub use Rattle.rd_store.specs.declared.image_cache.KeptImage.{KeptImage}
pub use Rattle.rd_store.specs.declared.images.Heading.{Heading}
pub use Rattle.rd_store.specs.declared.register.Register.{Register}
pub use Rattle.rd_store.specs.declared.version.Version.{Version}
pub use Rattle.rd_store.specs.declared.version.Version.TheVariants.{Second}
pub use Rattle.rd_tables.proofs.CreateTexts.{Creates, creates, creates_writes}
pub use Rattle.rd_tables.proofs.Entries.{IsKeyOrder, apart_if_less, below_has, entries_retained, entry_got, get_inserted, get_removed, got_entry, insert_removed, is_rising, retain_all, tie}
pub use Rattle.rd_tables.proofs.ListLemmas.{and_true, both, empty_by_length, equals_itself, filter_filter, filter_same, from_map, halves, holds_true, in_map, map_map, or_true, same_truth, some_got}
pub use Rattle.rd_tables.proofs.QueryEffects.{query_fails, read_survives, shown_is_open, shown_picks, shown_starts, shown_unchanged, shown_was_open}
pub use Rattle.rd_tables.proofs.QueryMaps.{in_order, looked_up}
pub use Rattle.rd_tables.proofs.QueryTexts.{AsksBy, AsksOver, AsksStart, all_checks_asks, all_deeds_asks, all_files_asks, all_keys_asks, all_marks_asks, all_rules_asks, audience_asks, batch_asks, deed_asks, file_asks, files_asks, first_images_asks, image_asks, keys_asks, marks_asks, next_images_asks, placed_rules_asks, rules_asks}
pub use Rattle.rd_tables.proofs.StatementRuns.{IsWrite, Makes, committed, done_was_open, inside_keeps, plain_mode, ran, was_open, write_fails}
pub use Rattle.rd_tables.proofs.StatementTexts.{drop_check_writes, drop_key_writes, drop_rule_writes, put_check_writes, put_deed_writes, put_file_writes, put_image_writes, put_key_writes, put_marks_writes, put_rule_writes, put_version_writes, set_deed_writes, set_version_writes}
pub use Rattle.rd_tables.proofs.Statements.{check_params, check_row, checkup_params, deed_params, deed_row, digest_params, drops_check, drops_key, drops_rule, file_row, has_checkup, has_digest, has_number, has_place, image_params, image_row, key_params, key_row, marks_params, marks_row, place_params, puts_check, puts_deed, puts_file, puts_image, puts_key, puts_marks, puts_rule, puts_version, rule_row, sets_deed, sets_version, version_row}
pub use Rattle.rd_tables.proofs.TestPlaces.{between, pairs_rise, parted, parted_map, sorted_after, sorted_before}
pub use Rattle.rd_tables.proofs.TestedRows.{all_in, all_shown, apart_by_rowids, each_shown, got_row, have_rowids, lawful_rows, row_got, rowids_apart, rows_lawful, show, shown_each, to_permuted}
pub use Rattle.rd_tables.proofs.UniqueKeys.{agree_one, agree_three, agree_two, one_check, one_file, one_key, one_rule, same_blob, same_int}
pub use Rattle.rd_tables.proofs.Values.{equal_blobs, equal_integers, equal_numbers, greater_int, least_numbers, most_numbers, same_numbers, truth_kept}
pub use Rattle.rd_tables.proofs.VersionText.{desk_first, one_tree, version_asks}
pub use Rattle.rd_tables.specs.Asked.{AreRising, IsListed, IsPicked, IsStart, asks_of, equals, greater, picked, rising}
pub use Rattle.rd_tables.specs.Connections.{Asks, IsClean, IsOpen, IsReadable, IsUntouched, Lasts, LeavesOld, LeavesOpen, Moves, RestsIn, RestsOver, Stays, Turns}
pub use Rattle.rd_tables.specs.Queries.{all_checks_query, all_deeds_query, all_files_query, all_images_query, all_keys_query, all_marks_query, all_rules_query, audience_query, batch_query, deed_query, file_query, files_query, image_query, keys_query, marks_query, placed_rules_query, rules_query, version_query}
pub use Rattle.rd_tables.specs.Schemas.{IsBlank, TellsVersion, desk_schema, desk_with, first_schema, has_desk, has_desk_columns, has_foreign_desk, marks_table, may_be_desk}
pub use Rattle.rd_tables.specs.Spellings.{HaveRowids, IsSpelled, SpellLawful, Spelling, Spells, entry_of, map_of, natural, natural_of, seen}
pub use Rattle.rd_tables.specs.Statements.{create_texts, drop_check, drop_check_text, drop_key, drop_key_text, drop_rule, drop_rule_text, marks_text, put_check, put_check_text, put_deed, put_deed_text, put_file, put_file_text, put_image, put_image_text, put_key, put_key_text, put_marks, put_marks_text, put_rule, put_rule_text, put_version, put_version_text, schema_after, set_deed, set_deed_text, set_version, set_version_text}
pub use Rattle.rd_volume.specs.Volumes.{AreFounds, IsFound, IsFoundAt, IsSlotOfFile}
pub use Rattle.rd_volume.specs.declared.found.Found.{Found}
pub use Rattle.sqlite.proofs.Callers.{memory_is_clean, one_permutation, statement_of, survives_begin}
pub use Rattle.sqlite.proofs.StateLemmas.{clean_if_open, survives_then, survives_weaker}
pub use Rattle.sqlite.specs.Collation.TheVariants.{Binary}
pub use Rattle.sqlite.specs.Command.{Command}
pub use Rattle.sqlite.specs.Command.TheVariants.{CreateTable}
pub use Rattle.sqlite.specs.Does.{Does, Tally, lacks_sequence}
pub use Rattle.sqlite.specs.Effect.{Database, IsDatabase}
pub use Rattle.sqlite.specs.Held.{Held, state}
pub use Rattle.sqlite.specs.Order.{Row, column, value_cmp}
pub use Rattle.sqlite.specs.Query.{Output, Query, key_cmp, output}
pub use Rattle.sqlite.specs.Schema.{Schema}
pub use Rattle.sqlite.specs.State.{CommitsBy, CommitsShowing, Executes, ExecutesInside, IsNotRun, IsRolledBack, IsUnchanged, KeepsCommit, KeepsCounts, Shown, Shows, State, Survives}
pub use Rattle.sqlite.specs.Steps.{FailsToCommit}
pub use Rattle.sqlite.specs.Store.{Ghosts}
pub use Rattle.sqlite.specs.Table.{Table}
pub use Rattle.sqlite.specs.Term.{col}
pub use Rattle.sqlite.specs.Tree.{Trees, has_rowid, put_row, rowid}
pub use Rattle.sqlite.specs.Values.{bound_value, or_null}
pub use Rattle.sqlite.specs.declared.error.Error.{Error}
pub use Rattle.sqlite.specs.declared.types.Value.{Value}
pub use Rattle.sqlite.specs.declared.types.Value.TheVariants.{Blob, Int, Null, Real, Text}
pub use Rattle.sqlite_rules.proofs.ListLemmas.{all_has, contains_had, has_contained, has_either, has_filtered, has_kept}
pub use Rattle.sqlite_rules.specs.Edit.{id_in}
pub use Rattle.sqlite_rules.specs.Lists.{Has}
pub use Rattle.sqlite_sql.specs.Ops.{is_true}
pub use Rattle.sqlite_sql.specs.Term.{Term, holds}
pub use Rattle.sqlite_sql.specs.declared.ops.BinaryOp.TheVariants.{Compare}
pub use Rattle.sqlite_sql.specs.declared.ops.CompareOp.TheVariants.{Eq, Ge, Gt, Le}
pub use Rattle.sqlite_sql.specs.declared.ops.UnaryOp.TheVariants.{Length, TypeOf}
pub use Rattle.sqlite_trees.proofs.ListLemmas.{filter-map}
pub use Rattle.sqlite_trees.specs.View.{is_int}
pub use Rattle.sqlite_value.proofs.OrderLemmas.{then-Equal, value_cmp-Blob, value_cmp-Int, value_cmp_total}
pub use Rattle.sqlite_value.specs.Order.{bytes}
pub use Rattle.sqlite_value.specs.declared.keys.Key.{Key}
pub use Rattle.std.proofs.Common.{All, AllPairs, Bool, Equal, Err, Global, Greater, IfErr, IfOk, IsErr, IsSome, IsTrue, Less, List, MatchBool, None, Ok, OnErr, OnOk, Option, Ordering, Result, Some, T, Vec, [], add-one, ap, ap₂, arith, below_more, codes, cond, drop, eqb-true, false, filter, get_or, inl, inr, int_cmp, int_le, int_lt, is_eq, is_gt, is_le, is_lt, is_ok, is_some, length, length-append, map, nat_cmp, negsuc, not, of_calls, of_z, option_map, option_to_list, pos, refl, rules, slice_get, slice_index, slice_index_or, slice_set, subst, subst₂, suc, sym, take, to_z, true, true≢false, vec_capacity, vec_len, w32, w64, zero, ℕ, ℤ, ◌%◌, ◌&&◌, ◌*◌, ◌++◌, ◌+◌, ◌-◌, ◌/◌, ◌<◌, ◌==◌, ◌||◌, ◌∙◌, ◌∷◌, ◌≡◌, ◌≢◌, ◌≤◌, ◌⊎◌}
pub use Rattle.std.proofs.lemmas.Bool.{cases_Bool, cases_eq, cases_order}
pub use Rattle.std.proofs.lemmas.Bool.Decides.{nat_tests}
pub use Rattle.std.proofs.lemmas.Cmp.{eq_by_cmp_equiv, int_cmp_total, nat_cmp_total, nat_list_cmp_total, on_total, then_total}
pub use Rattle.std.proofs.lemmas.Fn.{always_returns_same}
pub use Rattle.std.proofs.lemmas.Int.{to_z-of_z}
pub use Rattle.std.proofs.lemmas.List.{drop-map, drop_more, ext_get_or, get_or-map, get_or-set_other, get_or-set_same, get_or_default, length-map, length-set, length_push, map-append, take-map, take_all, take_more, take_more_same, take_rest}
pub use Rattle.std.proofs.lemmas.List.Elements.{All-from_recursion, All-more, All-weaker, recursion_from_All}
pub use Rattle.std.proofs.lemmas.List.Sorted.{IsNonDecreasingBy-from_all_adjacent, IsPermutation-map, IsPermutation-sym, answers_always, non_decreasing_from_is_sorted}
pub use Rattle.std.proofs.lemmas.Result.{IfErr-weaker, IfOk-weaker}
pub use Rattle.std.specs.FinMap.{FinMap, entries, entries-from_sorted, entries-insert, entries_sorted, from_entries, from_entries_push, from_sorted, get, get-entries, get-from_entries, get-from_sorted, get-insert, get-retain_keys, insert, keys, len-empty, len-entries, nat_cmp-IsAntisymmetric, remove, retain_keys, same_entries_map, same_map}
pub use Rattle.std.specs.FinMap.Entries.{below_all, find, is_sorted, put}
pub use Rattle.std.specs.List.{AllAdjacentBelow, AllByRecursion, AllZip, Any, list_all}
pub use Rattle.std.specs.List.Sorted.{IsBinarySearchResult, IsNonDecreasing, IsNonDecreasingBy, IsPartitionedBy, IsPermutation, IsSearchInRange}
pub use Rattle.std.specs.Option.{unwrap_or}
pub use Rattle.std.specs.Ordering.{eq_by_cmp, ordering_index, ordering_reverse, ordering_then}
pub use Rattle.std.specs.Prelude.{IfSome, IsErrAnd, ⊤}
