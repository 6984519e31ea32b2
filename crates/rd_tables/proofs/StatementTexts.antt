-- What the texts of the statements mean over the tables of a desk.
use Rattle.rd_tables.proofs.Common.{refl, desk_schema, put_version_text, put_version, set_version_text, set_version, put_deed_text, put_deed, set_deed_text, set_deed, put_image_text, put_image, put_rule_text, put_rule, drop_rule_text, drop_rule, put_key_text, put_key, drop_key_text, drop_key, put_check_text, put_check, drop_check_text, drop_check, put_file_text, put_file, put_marks_text, put_marks}
use Rattle.sqlite.specs.Listing.{understood}
use Rattle.sqlite_tied.specs.Compute.{everything}
use Rattle.rd_tables.proofs.StatementRuns.{IsWrite}

pub put_version_writes : IsWrite desk_schema put_version_text put_version
unfolding understood everything
put_version_writes = record { is = refl; plain = (refl, refl); writes = λ old new statement params count h. h; no_commit = λ e. absurd cc; no_release = λ name e. absurd cc }

pub set_version_writes : IsWrite desk_schema set_version_text set_version
unfolding understood everything
set_version_writes = record { is = refl; plain = (refl, refl); writes = λ old new statement params count h. h; no_commit = λ e. absurd cc; no_release = λ name e. absurd cc }

pub put_deed_writes : IsWrite desk_schema put_deed_text put_deed
unfolding understood everything
put_deed_writes = record { is = refl; plain = (refl, refl); writes = λ old new statement params count h. h; no_commit = λ e. absurd cc; no_release = λ name e. absurd cc }

pub set_deed_writes : IsWrite desk_schema set_deed_text set_deed
unfolding understood everything
set_deed_writes = record { is = refl; plain = (refl, refl); writes = λ old new statement params count h. h; no_commit = λ e. absurd cc; no_release = λ name e. absurd cc }

pub put_image_writes : IsWrite desk_schema put_image_text put_image
unfolding understood everything
put_image_writes = record { is = refl; plain = (refl, refl); writes = λ old new statement params count h. h; no_commit = λ e. absurd cc; no_release = λ name e. absurd cc }

pub put_rule_writes : IsWrite desk_schema put_rule_text put_rule
unfolding understood everything
put_rule_writes = record { is = refl; plain = (refl, refl); writes = λ old new statement params count h. h; no_commit = λ e. absurd cc; no_release = λ name e. absurd cc }

pub drop_rule_writes : IsWrite desk_schema drop_rule_text drop_rule
unfolding understood everything
drop_rule_writes = record { is = refl; plain = (refl, refl); writes = λ old new statement params count h. h; no_commit = λ e. absurd cc; no_release = λ name e. absurd cc }

pub put_key_writes : IsWrite desk_schema put_key_text put_key
unfolding understood everything
put_key_writes = record { is = refl; plain = (refl, refl); writes = λ old new statement params count h. h; no_commit = λ e. absurd cc; no_release = λ name e. absurd cc }

pub drop_key_writes : IsWrite desk_schema drop_key_text drop_key
unfolding understood everything
drop_key_writes = record { is = refl; plain = (refl, refl); writes = λ old new statement params count h. h; no_commit = λ e. absurd cc; no_release = λ name e. absurd cc }

pub put_check_writes : IsWrite desk_schema put_check_text put_check
unfolding understood everything
put_check_writes = record { is = refl; plain = (refl, refl); writes = λ old new statement params count h. h; no_commit = λ e. absurd cc; no_release = λ name e. absurd cc }

pub drop_check_writes : IsWrite desk_schema drop_check_text drop_check
unfolding understood everything
drop_check_writes = record { is = refl; plain = (refl, refl); writes = λ old new statement params count h. h; no_commit = λ e. absurd cc; no_release = λ name e. absurd cc }

pub put_file_writes : IsWrite desk_schema put_file_text put_file
unfolding understood everything
put_file_writes = record { is = refl; plain = (refl, refl); writes = λ old new statement params count h. h; no_commit = λ e. absurd cc; no_release = λ name e. absurd cc }

pub put_marks_writes : IsWrite desk_schema put_marks_text put_marks
unfolding understood everything
put_marks_writes = record { is = refl; plain = (refl, refl); writes = λ old new statement params count h. h; no_commit = λ e. absurd cc; no_release = λ name e. absurd cc }
