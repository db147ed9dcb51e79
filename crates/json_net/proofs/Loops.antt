-- Arrays, item by item.
use Rattle.std.proofs.Common.{◌≡◌, ℕ, ◌+◌, ◌<◌, List, [], ◌∷◌, ◌++◌, length, drop, get_or, Result, Ok, Err, sym, ap, ◌∙◌}
use Rattle.std.proofs.lemmas.List.{drop_more}
use Rattle.stn_model.specs.Net.{Net}
use Rattle.serde_json.specs.Data.{Data, Items, item}
use Rattle.serde_json.specs.View.{view, items_view}
use Rattle.serde_json.specs.declared.value.Value.{Value}
use Rattle.json_net.specs.declared.path.Step.{Step}
use Rattle.json_net.specs.declared.path.Step.TheVariants.{Item}
use Rattle.json_net.specs.declared.error.JsonError.{JsonError}
use Rattle.json_net.specs.Members.{and_then}
use Rattle.json_net.specs.Networks.{read_each}

-- what is left from a place on is the item there and what follows
items_left : (vs : List Value) (i : ℕ) (v : Value) → i < length vs → v ≡ get_or vs i v
    → items_view (drop i vs) ≡ item (view v) (items_view (drop (i + 1) vs))
items_left vs i v within is =
    ap items_view (drop_more vs i v within) ∙ ap (λ (x : Value). item (view x) (items_view (drop (i + 1) vs))) (sym is)

module _ (read : List Step → Net → Data → Result Net JsonError) (path : List Step) (net : Net)
    (vs : List Value) (i : ℕ) (v : Value) (step : Step) (at : List Step) where
  -- an item that is read as it should be
  pub item_read : (now : Net) → i < length vs → v ≡ get_or vs i v → step ≡ Item i → at ≡ path ++ step ∷ [] → read at net (view v) ≡ Ok now
      → read_each read path net i (items_view (drop i vs)) ≡ read_each read path now (i + 1) (items_view (drop (i + 1) vs))
  item_read now within is number here done =
      let place : at ≡ path ++ Item i ∷ [] = here ∙ ap (λ (s : Step). path ++ s ∷ []) number in
      ap (read_each read path net i) (items_left vs i v within is)
      ∙ ap (λ (r : Result Net JsonError). and_then r (λ grown. read_each read path grown (i + 1) (items_view (drop (i + 1) vs))))
      (ap (λ (p : List Step). read p net (view v)) (sym place) ∙ done)

  -- an item that is not
  pub item_failed : (e : JsonError) → i < length vs → v ≡ get_or vs i v → step ≡ Item i → at ≡ path ++ step ∷ [] → read at net (view v) ≡ Err e
      → read_each read path net i (items_view (drop i vs)) ≡ Err e
  item_failed e within is number here failed =
      let place : at ≡ path ++ Item i ∷ [] = here ∙ ap (λ (s : Step). path ++ s ∷ []) number in
      ap (read_each read path net i) (items_left vs i v within is)
      ∙ ap (λ (r : Result Net JsonError). and_then r (λ grown. read_each read path grown (i + 1) (items_view (drop (i + 1) vs))))
      (ap (λ (p : List Step). read p net (view v)) (sym place) ∙ failed)
