use Rattle.rd_store.proofs.Common.{rules, ◌≡◌, pos, [], ◌∷◌, map, true, false, subst, Int, column}
use Rattle.rd_store.proofs.RowTests.{version_told}
use Rattle.rd_store.proofs.version.said_version.Goals as goal

pub returns-then-is_version : goal.returns-then-is_version
returns-then-is_version g c = record {
  asks = record {
    stays = c.version_rows.ensures.asks.stays;
    ends_open = search rules;
    fault = search rules;
    answer = λ is_open.
        let picks = c.in_ok-rows.ensures.asks.answer is_open in
        version_told c.args.tree 2 true _ c.in_ok-rows.rows.items picks (subst (λ rows. map (λ row. column row 0 ∷ column row 1 ∷ []) rows ≡ (Int (pos 1) ∷ Int (pos 2) ∷ []) ∷ []) c.deref.ensures.value c.if-is_version.ensures);
  };
}

pub returns-then-is_version-2 : goal.returns-then-is_version-2
returns-then-is_version-2 g c = record {
  asks = record {
    stays = c.version_rows.ensures.asks.stays;
    ends_open = search rules;
    fault = search rules;
    answer = λ is_open.
        let picks = c.in_ok-rows.ensures.asks.answer is_open in
        version_told c.args.tree 1 true _ c.in_ok-rows.rows.items picks (subst (λ rows. map (λ row. column row 0 ∷ column row 1 ∷ []) rows ≡ (Int (pos 1) ∷ Int (pos 1) ∷ []) ∷ []) c.deref-2.ensures.value c.if-is_version-2.ensures);
  };
}

pub returns : goal.returns
returns g c = record {
  asks = record {
    stays = c.version_rows.ensures.asks.stays;
    ends_open = search rules;
    fault = search rules;
    answer = λ is_open.
        let picks = c.in_ok-rows.ensures.asks.answer is_open in
        (version_told c.args.tree 1 false _ c.in_ok-rows.rows.items picks (subst (λ rows. ¬ (map (λ row. column row 0 ∷ column row 1 ∷ []) rows ≡ (Int (pos 1) ∷ Int (pos 1) ∷ []) ∷ [])) c.deref-2.ensures.value c.if-is_version-2.ensures), version_told c.args.tree 2 false _ c.in_ok-rows.rows.items picks (subst (λ rows. ¬ (map (λ row. column row 0 ∷ column row 1 ∷ []) rows ≡ (Int (pos 1) ∷ Int (pos 2) ∷ []) ∷ [])) c.deref.ensures.value c.if-is_version.ensures));
  };
}
