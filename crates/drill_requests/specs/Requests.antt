-- The requests of a drill.
use Rattle.std.specs.Prelude.{ℕ, ◌+◌, ◌-◌, ◌*◌, ◌%◌, ◌==◌, if◌then◌else◌, Bool, true, false, List, [], ◌∷◌, ◌++◌, map, zero, suc}
use Rattle.std.specs.List.{range_with_len}
use Rattle.drill_requests.specs.Draws.{value_after, draw}
use Rattle.drill_requests.specs.declared.request.DrillRequest.{DrillRequest}
use Rattle.drill_requests.specs.declared.request.DrillRequest.TheVariants.{Handshake, NewTask, CancelTask, Claim, FinalUpdate}

-- eight bots come
abbrev pub handshakes : List DrillRequest
handshakes = map Handshake (range_with_len 1 8)

-- a bot runs the task of a cycle, which ends with an exit code
abbrev pub run : ℕ → ℕ → ℕ → Bool → List DrillRequest
run cycle bot exit_code hard_timeout = Claim bot cycle ∷ FinalUpdate bot cycle exit_code hard_timeout ∷ []

-- a bot runs the task of a cycle, and is asked to stop
abbrev pub killed_run : ℕ → ℕ → List DrillRequest
killed_run cycle bot = Claim bot cycle ∷ CancelTask cycle true ∷ FinalUpdate bot cycle 0 false ∷ []

-- how the task of a cycle ends, by a number below 5: it is canceled while it waits, its run is killed,
-- its run takes too long, or its run ends with exit code 0 or 1
abbrev pub ending : ℕ → ℕ → ℕ → List DrillRequest
ending cycle bot way =
    if way == 0 then CancelTask cycle false ∷ []
    else (if way == 1 then killed_run cycle bot
    else (if way == 2 then run cycle bot 137 true
    else run cycle bot (way - 3) false))

-- the requests of a cycle, by the three numbers that it draws
abbrev pub cycle_by : ℕ → ℕ → ℕ → ℕ → List DrillRequest
cycle_by cycle a b c = NewTask cycle (a % 256) ∷ ending cycle (b % 8 + 1) (c % 5)

-- the requests of a cycle that draws its three numbers from a value of the generator on
unfoldable pub cycle_from : ℕ → ℕ → List DrillRequest
cycle_from cycle value = cycle_by cycle (draw value 1) (draw value 2) (draw value 3)

-- the requests of the cycle after so many others, each of which drew three numbers
unfoldable pub cycle_after : ℕ → ℕ → List DrillRequest
cycle_after start n = cycle_from (n + 1) (value_after start (3 * n))

-- the requests of so many cycles, in their order
unfoldable pub cycles : ℕ → ℕ → List DrillRequest
cycles start zero = []
cycles start (suc n) = cycles start n ++ cycle_after start n

-- the requests of a drill
unfoldable pub requests : ℕ → ℕ → List DrillRequest
requests start count = handshakes ++ cycles start count
