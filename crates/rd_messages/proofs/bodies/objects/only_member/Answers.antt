use Rattle.std.proofs.Common.{◌≡◌, ◌∙◌, length, ap, arith, sym}
use Rattle.std.proofs.lemmas.Option.{same_Some}
use Rattle.serde_json.specs.Data.{member, no_members, object}
use Rattle.serde_json.specs.Events.{members_len}
use Rattle.serde_json.specs.Find.{as_object}
use Rattle.serde_json.specs.View.{members_view, view}
use Rattle.serde_json.proofs.Views.{members_len-members_view}
use Rattle.rd_messages.specs.Objects.{one_member}
use Rattle.rd_messages.proofs.JsonValues.{is_object, one_entry}
use Rattle.rd_messages.proofs.bodies.objects.only_member.Goals as goal

pub returns-then-len-ne1-clause-none : goal.returns-then-len-ne1-clause-none
returns-then-len-ne1-clause-none c = λ key value is.
    let entries = c.in_ok-members.members.now.entries in
    let same : members_view entries ≡ member key value no_members =
    same_Some (members_view entries) (member key value no_members) (c.in_ok-members.ensures ∙ ap as_object is) in
    let one : length entries ≡ 1 = sym (members_len-members_view entries) ∙ ap members_len same in
    c.if-len-ne1.true (c.len.ensures.len ∙ one)

pub returns-clause-single : goal.returns-clause-single
returns-clause-single c =
    let entries = c.in_ok-members.members.now.entries in
    let one : length entries ≡ 1 = omega (arith, c.len.ensures.len, c.if-len-ne1.false) in
    let entry = one_entry entries (c.in_ok-key.key.now, c.in_ok-key.member.now) one c.in_ok-key.ensures.first in
    is_object (view c.args.value.now) (members_view entries) c.in_ok-members.ensures
    ∙ ap (λ es. object (members_view es)) entry
    ∙ ap (λ key. one_member key (view c.in_ok-key.member.now)) (sym c.as_str.ensures.value)
