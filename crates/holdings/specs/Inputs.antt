-- What the slots of `Inputs` are that hold no input, and that a list of inputs gives them back.
use Rattle.std.specs.Prelude.{ℕ, ◌-◌, ◌≤◌, ◌≡◌, List, ◌++◌, length, take, drop, replicate}
use Rattle.std.proofs.Common.{arith, sym, ap, ◌∙◌, length-take-le, take-append-drop}
use Rattle.transaction.specs.declared.Input.{Input}
use Rattle.transaction.specs.Tokens.{zero_input}

-- the slots of four behind so many
abbrev pub unused : ℕ → List Input
unused count = replicate (4 - count) zero_input

-- the first of four, with zeros behind them, are the four
pub given_back : (count : ℕ) (list : List Input)
    → (count ≤ 4) × (length list ≡ 4) × (drop count list ≡ unused count)
    → take count list ++ unused (length (take count list)) ≡ list
given_back count list h =
    let few : length (take count list) ≡ count = length-take-le count list (omega (arith, h.0, h.1)) in
    ap (λ (n : ℕ). take count list ++ unused n) few
    ∙ ap (λ (rest : List Input). take count list ++ rest) (sym h.2)
    ∙ take-append-drop count list
