-- Channel numbers. 'There are 196 single-ended readings, 28 a card.' Assumes nothing.
use Rattle.std.specs.Prelude.{ℕ, ◌+◌, ◌-◌, ◌*◌, ◌/◌, ◌%◌}
use Rattle.base_program.specs.declared.SingleEnded.{SingleEnded}
use Rattle.base_program.specs.declared.Differential.{Differential}
use Rattle.base_program.specs.declared.Inputs.{Inputs}
use Rattle.base_program.specs.Ranges.{Range, ◌to◌, cards, single_channels, differential_channels}

-- Channels are counted on from card to card, `each` of them a card.
abbrev pub on_card : ℕ → ℕ → ℕ → ℕ
on_card each card channel = (card - 1) * each + channel

-- the card and the channel of that card, back from such a number
abbrev pub card_of : ℕ → ℕ → ℕ
card_of each n = (n - 1) / each + 1

abbrev pub channel_of : ℕ → ℕ → ℕ
channel_of each n = (n - 1) % each + 1

-- the numbers of all cards' channels
abbrev pub over_cards : Range → Range
over_cards each = on_card each.most cards.least each.least to on_card each.most cards.most each.most

abbrev pub single_numbers : Range
single_numbers = over_cards single_channels

abbrev pub differential_numbers : Range
differential_numbers = over_cards differential_channels

unfoldable pub single_on : ℕ → ℕ → SingleEnded
single_on card channel = record { 0 = on_card single_channels.most card channel }

unfoldable pub differential_on : ℕ → ℕ → Differential
differential_on card channel = record { 0 = on_card differential_channels.most card channel }

-- 'Differential channel d reads single-ended 2d - 1 less 2d.'
unfoldable pub inputs : Differential → Inputs
inputs d = record { high = record { 0 = 2 * d.0 - 1 }; low = record { 0 = 2 * d.0 } }
