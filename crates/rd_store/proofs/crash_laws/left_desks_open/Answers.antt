use Rattle.rd_store.proofs.Common.{◌≡◌, ◌∙◌, [], ◌∷◌, ◌⊎◌, inl, inr, length, refl, sym, ap, subst, true≢false, true, false, arith, Database, IsDatabase, Trees, Schema, desk_schema, first_schema, marks_table, may_be_desk, OpenFault, NotADesk, Inconsistent, IsLeft, IsIndexOf, IsLawful, IsFirstConsistent, IsSecondConsistent, RefusesEach, IsConsistent, Refuses, index_of, Desk}
use Rattle.sqlite_schema.specs.Names.{same_name}
use Rattle.rd_store.specs.declared.faults.OpenFault.TheVariants.{Version as OtherVersion, Sql}
use Rattle.rd_store.proofs.DatabaseTests.{said_here}
use Rattle.rd_store.proofs.OneSchema.{HaveOneKey, one_schema}
use Rattle.rd_store.proofs.crash_laws.left_desks_open.Goals as goal

consistent : (desk : Desk) (left : Trees) → IsLeft desk left → IsConsistent left
consistent desk left h = record {
  spelled = h.of.rows;
  lawful = subst IsLawful (sym h.of.is) h.lawful;
  index = subst (λ (d : Desk). IsIndexOf d.images (index_of left)) (sym h.of.is) h.of.index;
}

opened_here : (desk : Desk) (left : Trees) → IsLeft desk left → (fault : OpenFault) → Refuses fault (record { schema = desk_schema; trees = left }) → fault ≡ Sql
unfolding same_name
opened_here desk left h NotADesk refused = let e : true ≡ false = refused in absurd (true≢false e)
opened_here desk left h OtherVersion refused = absurd (said_here (marks_table 11 ∷ []) (record { schema = desk_schema; trees = left }) refl refused.1 h.of.rows.version)
opened_here desk left h Inconsistent refused = absurd (refused.2 (consistent desk left h))
opened_here desk left h Sql refused = refl

apart : ¬ (desk_schema ≡ first_schema)
apart e = let n : 8 ≡ 7 = ap (λ (s : Schema). length s.tables) e in absurd (omega (arith, n))

first : (db : Database) → IsFirstConsistent db → (fault : OpenFault) → RefusesEach fault db → fault ≡ Sql
unfolding same_name
first db is NotADesk refused = let e : true ≡ false = subst (λ (s : Schema). may_be_desk s ≡ false) is.0 refused in absurd (true≢false e)
first db is OtherVersion refused = absurd ((said_here [] db is.0 refused.1).0 is.1.spelled.version)
first db is Inconsistent (inl one) = absurd (one.2 is.1)
first db is Inconsistent (inr two) = absurd (apart (sym two.0 ∙ is.0))
first db is Sql refused = refl

second : (db : Database) → IsSecondConsistent db → (fault : OpenFault) → RefusesEach fault db → fault ≡ Sql
unfolding same_name
second db is NotADesk refused = let e : true ≡ false = subst (λ (s : Schema). may_be_desk s ≡ false) is.0 refused in absurd (true≢false e)
second db is OtherVersion refused = absurd ((said_here (marks_table 11 ∷ []) db is.0 refused.1).1 is.1.spelled.version)
second db is Inconsistent (inl one) = absurd (apart (sym is.0 ∙ one.0))
second db is Inconsistent (inr two) = absurd (two.2 is.1)
second db is Sql refused = refl

-- one more table after those of version 1 has no other key
marks_short : HaveOneKey (marks_table 11 ∷ [])
marks_short = (omega arith, tt)

shown : (db : Database) → IsDatabase db → IsFirstConsistent db ⊎ IsSecondConsistent db → (schema : Schema) → IsDatabase (record { schema = schema; trees = db.trees }) → schema ≡ db.schema
shown db sound (inl is) schema other = one_schema [] tt schema db.trees (subst (λ (s : Schema). IsDatabase (record { schema = s; trees = db.trees })) is.0 sound) other ∙ sym is.0
shown db sound (inr is) schema other = one_schema (marks_table 11 ∷ []) marks_short schema db.trees (subst (λ (s : Schema). IsDatabase (record { schema = s; trees = db.trees })) is.0 sound) other ∙ sym is.0

left_shows : (desk : Desk) (left : Trees) → IsLeft desk left → (schema : Schema) → IsDatabase (record { schema = schema; trees = left }) → schema ≡ desk_schema
left_shows desk left h schema other = one_schema (marks_table 11 ∷ []) marks_short schema left h.of.sound other

opened : (desk : Desk) (left : Trees) → IsLeft desk left → (schema : Schema) → IsDatabase (record { schema = schema; trees = left }) → (fault : OpenFault) → Refuses fault (record { schema = schema; trees = left }) → fault ≡ Sql
opened desk left h schema other fault refused = opened_here desk left h fault (subst (λ (s : Schema). Refuses fault (record { schema = s; trees = left })) (left_shows desk left h schema other) refused)

migrated : (desk : Desk) (left : Trees) → IsLeft desk left → (schema : Schema) → IsDatabase (record { schema = schema; trees = left }) → (fault : OpenFault) → RefusesEach fault (record { schema = schema; trees = left }) → fault ≡ Sql
migrated desk left h schema other fault refused =
    second (record { schema = desk_schema; trees = left }) (refl, consistent desk left h) fault (subst (λ (s : Schema). RefusesEach fault (record { schema = s; trees = left })) (left_shows desk left h schema other) refused)

pub returns-clause-consistent : goal.returns-clause-consistent
returns-clause-consistent c = consistent

pub returns-clause-opened : goal.returns-clause-opened
returns-clause-opened c = opened

pub returns-clause-migrated : goal.returns-clause-migrated
returns-clause-migrated c = migrated

pub returns-clause-first : goal.returns-clause-first
returns-clause-first c = first

pub returns-clause-second : goal.returns-clause-second
returns-clause-second c = second

pub returns-clause-shown : goal.returns-clause-shown
returns-clause-shown c = shown
