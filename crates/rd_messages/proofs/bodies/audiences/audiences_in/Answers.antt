use Rattle.std.proofs.Common.{◌≡◌, ◌∙◌, ℕ, ◌+◌, ◌≤◌, ◌++◌, [], ◌∷◌, List, length, get_or, map, take, ap, arith, subst, sym}
use Rattle.std.proofs.Math.ListN.{get_or-map}
use Rattle.std.proofs.lemmas.Bool.{iff_false}
use Rattle.std.proofs.lemmas.List.{length-map, map_more, take-map, take_all}
use Rattle.serde_json.specs.View.{view}
use Rattle.serde_json.specs.declared.value.Value.{Value}
use Rattle.rd_policy.specs.declared.audience.Audiences.{Audiences}
use Rattle.rd_messages.proofs.AudienceWords.{Names, named_twice, names_all, names_more, names_nobody, no_word}
use Rattle.rd_messages.proofs.bodies.audiences.audiences_in.Goals as goal

-- the value at a place, as it is seen
at_place : (values : List Value) (i : ℕ) (value : Value) → value ≡ get_or values i value → get_or (map view values) i (view value) ≡ view value
at_place values i value is = get_or-map view values i value ∙ ap view (sym is)

-- all values are the first so many
all_names : (values : List Value) (i : ℕ) (set : Audiences) → length values ≤ i → Names (map view (take i values)) set → Names (map view values) set
all_names values i set enough names = subst (λ values. Names (map view values) set) (take_all i values enough) names

pub returns-in_err-audience-clause-none : goal.returns-in_err-audience-clause-none
returns-in_err-audience-clause-none c =
    let values = c.args.values.now in
    let i = c.loop-value.value-index in
    rw c.from_residual.ensures
    (λ set. no_word (map view values) i (view c.value-item.result) set (omega (arith, length-map values view, c.loop-value-test.true))
    (at_place values i c.value-item.result c.value-item.is) c.in_err-audience.ensures.none)

pub returns-then-contains-clause-none : goal.returns-then-contains-clause-none
returns-then-contains-clause-none c = λ set.
    let values = c.args.values.now in
    let i = c.loop-value.value-index in
    let front = subst (λ front. Names front c.loop-value.set) (sym (take-map view i values)) c.loop-value.invariant in
    named_twice (map view values) i (view c.value-item.result) c.loop-value.set set c.in_ok-audience.audience
    (omega (arith, length-map values view, c.loop-value-test.true)) (at_place values i c.value-item.result c.value-item.is)
    c.in_ok-audience.ensures.parsed front (c.contains.ensures.0 c.if-contains.true)

pub loop-value-preserved : goal.loop-value-preserved
loop-value-preserved c =
    let values = c.args.values.now in
    let i = c.loop-value.value-index in
    let longer : map view (take (i + 1) values) ≡ map view (take i values) ++ view c.value-item.result ∷ [] =
    map_more view values i c.value-item.result c.loop-value-test.true
    ∙ ap (λ value. map view (take i values) ++ view value ∷ []) (sym c.value-item.is) in
    subst (λ front. Names front c.with-set.result) (sym longer)
    (names_more (map view (take i values)) (view c.value-item.result) c.loop-value.set c.with-set.result c.in_ok-audience.audience
    c.loop-value.invariant c.in_ok-audience.ensures.parsed (iff_false c.contains.ensures c.if-contains.false) c.with-set.ensures)

pub returns-then-is_empty-clause-none : goal.returns-then-is_empty-clause-none
returns-then-is_empty-clause-none c = λ set.
    let values = c.args.values.now in
    names_nobody (map view values) c.loop-value.set set
    (all_names values c.loop-value.value-index c.loop-value.set c.loop-value-test.false c.loop-value.invariant)
    (c.is_empty.ensures.0 c.if-is_empty.true)

pub returns-else-is_empty-clause-parsed : goal.returns-else-is_empty-clause-parsed
returns-else-is_empty-clause-parsed c =
    let values = c.args.values.now in
    names_all (map view values) c.loop-value.set
    (all_names values c.loop-value.value-index c.loop-value.set c.loop-value-test.false c.loop-value.invariant)
    (iff_false c.is_empty.ensures c.if-is_empty.false)
