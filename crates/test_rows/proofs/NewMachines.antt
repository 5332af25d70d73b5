-- A machine to which nothing led has its settings, no blob and no bot; and the rules of the first pool of settings.
use Rattle.std.proofs.Common.{◌≡◌, ℕ, ◌<◌, List, [], ◌∷◌, length, get_or, ap, sym, subst, arith, None, IsTrue}
use Rattle.std.specs.List.{list_all}
use Rattle.std.proofs.lemmas.Bool.{and_parts}
use Rattle.std.proofs.lemmas.List.Elements.{All-nil}
use Rattle.std.proofs.lemmas.List.Sums.{AllPass-from_list_all}
use Rattle.dimensions.specs.declared.bot_dims.BotDims.{BotDims}
use Rattle.swarm_model.specs.declared.pool_settings.PoolSettings.{PoolSettings}
use Rattle.swarm_model.specs.declared.pool_settings.Settings.{Settings}
use Rattle.swarm_model.specs.Bases.{empty_base}
use Rattle.swarm_model.specs.Bytes.{nothing_held}
use Rattle.swarm_model.specs.Effects.{opening}
use Rattle.swarm_model.specs.Finding.{bot_named}
use Rattle.swarm_model.specs.Fits.{fits_bot}
use Rattle.swarm_model.specs.MachineState.{MachineState}
use Rattle.swarm_model.specs.Settings.{are_settings, keeps_rules}
use Rattle.swarm_model.specs.Words.{is_between}
use Rattle.pool_loading.specs.Records.{AreFilled, IsFilled}

abbrev pub new_state : PoolSettings → MachineState
new_state pool = record { start = empty_base pool; pool = opening pool; log = []; ready = None; held = nothing_held }

pub new_filled : (kept : MachineState) (pool : PoolSettings) → kept ≡ new_state pool → AreFilled kept
new_filled kept pool is = subst AreFilled (sym is) (All-nil (IsFilled (new_state pool)))

pub new_settings : (kept : MachineState) (pool : PoolSettings) → kept ≡ new_state pool → kept.pool.settings ≡ pool
new_settings kept pool is = ap (λ (k : MachineState). k.pool.settings) is

pub new_unknown : (kept : MachineState) (pool : PoolSettings) (name : List ℕ) → kept ≡ new_state pool → bot_named kept.pool name ≡ None
new_unknown kept pool name is = ap (λ (k : MachineState). bot_named k.pool name) is

pub new_fits : (kept : MachineState) (pool : PoolSettings) (name : List ℕ) (dims : BotDims)
    → IsTrue (fits_bot pool name dims) → kept ≡ new_state pool → IsTrue (fits_bot kept.pool.settings name dims)
new_fits kept pool name dims fits is = subst (λ (k : MachineState). IsTrue (fits_bot k.pool.settings name dims)) (sym is) fits

pub first_rules : (settings : Settings) (pool : PoolSettings) (rest : List PoolSettings) → settings.pools ≡ pool ∷ rest → IsTrue (are_settings settings) → IsTrue (keeps_rules pool)
first_rules settings pool rest is rules =
    let counted = and_parts (is_between 1 4 (length settings.pools)) _ rules in
    let each = and_parts (list_all keeps_rules settings.pools) _ counted.1 in
    subst (λ (l : List PoolSettings). 0 < length l → IsTrue (keeps_rules (get_or l 0 pool))) is (AllPass-from_list_all keeps_rules settings.pools each.0 0 pool) (omega arith)

pub only_rules : (settings : Settings) (pool : PoolSettings) → settings.pools ≡ pool ∷ [] → IsTrue (are_settings settings) → IsTrue (keeps_rules pool)
only_rules settings pool is rules = first_rules settings pool [] is rules
