-- each word by its number
use Rattle.std.proofs.Common.{refl, ◌∙◌, rules}
use Rattle.words.specs.Words.{find_number}
use Rattle.words.proofs.Table.{find_none}
use Rattle.supply.specs.declared.Target.TheVariants.{Pv, Pc, Ovp, Uvl}
use Rattle.parameters.specs.Parameters.{parameter_of}
use Rattle.asks.specs.Words.{set, ovm, out, fld, ast, rmt, fena, sena, cls, rst, asked_by, commands, unknown_word}
use Rattle.asks.proofs.Reading.{by_key, one_word, all_word}
use Rattle.asks.proofs.asks_of_word.Goals as goal

-- PV
pub returns-in-86102 : goal.returns-in-86102
unfolding find_number
returns-in-86102 c = one_word _ (set Pv) _ _ c.in-86102.is refl c.set.ensures c.to_one.ensures

-- PC
pub returns-in-86083 : goal.returns-in-86083
unfolding find_number
returns-in-86083 c = one_word _ (set Pc) _ _ c.in-86083.is refl c.set-in-86083.ensures c.to_one-in-86083.ensures

-- OVP
pub returns-in-21976656 : goal.returns-in-21976656
unfolding find_number
returns-in-21976656 c = one_word _ (set Ovp) _ _ c.in-21976656.is refl c.set-in-21976656.ensures c.to_one-in-21976656.ensures

-- OVM
pub returns-in-21976653 : goal.returns-in-21976653
unfolding find_number
returns-in-21976653 c = one_word _ ovm _ _ c.in-21976653.is refl c.bare.ensures c.to_one-in-21976653.ensures

-- UVL
pub returns-in-22369868 : goal.returns-in-22369868
unfolding find_number
returns-in-22369868 c = one_word _ (set Uvl) _ _ c.in-22369868.is refl c.set-in-22369868.ensures c.to_one-in-22369868.ensures

-- OUT
pub returns-in-21976404 : goal.returns-in-21976404
unfolding find_number
returns-in-21976404 c = one_word _ out _ _ c.in-21976404.is refl c.out.ensures c.to_one-in-21976404.ensures

-- FLD
pub returns-in-21384260 : goal.returns-in-21384260
unfolding find_number
returns-in-21384260 c = one_word _ fld _ _ c.in-21384260.is refl c.fld.ensures c.to_one-in-21384260.ensures

-- AST
pub returns-in-21058388 : goal.returns-in-21058388
unfolding find_number
returns-in-21058388 c = one_word _ ast _ _ c.in-21058388.is refl c.ast.ensures c.to_one-in-21058388.ensures

-- RMT
pub returns-in-22170964 : goal.returns-in-22170964
unfolding find_number
returns-in-22170964 c = one_word _ rmt _ _ c.in-22170964.is refl c.rmt.ensures c.to_one-in-22170964.ensures

-- FENA
pub returns-in-5473914433 : goal.returns-in-5473914433
unfolding find_number
returns-in-5473914433 c = one_word _ fena _ _ c.in-5473914433.is refl c.fena.ensures c.to_one-in-5473914433.ensures

-- SENA
pub returns-in-5692018241 : goal.returns-in-5692018241
unfolding find_number
returns-in-5692018241 c = one_word _ sena _ _ c.in-5692018241.is refl c.sena.ensures c.to_one-in-5692018241.ensures

-- CLS
pub returns-in-21187667 : goal.returns-in-21187667
unfolding find_number
returns-in-21187667 c = one_word _ cls _ _ c.in-21187667.is refl c.bare-in-21187667.ensures c.to_one-in-21187667.ensures

-- RST
pub returns-in-22172500 : goal.returns-in-22172500
unfolding find_number
returns-in-22172500 c = one_word _ rst _ _ c.in-22172500.is refl c.bare-in-22172500.ensures c.to_one-in-22172500.ensures

-- PV_ASKED
pub returns-in-22042175 : goal.returns-in-22042175
unfolding find_number
returns-in-22042175 c = c.query.ensures ∙ by_key _ c.in-22042175.is

-- PC_ASKED
pub returns-in-22037311 : goal.returns-in-22037311
unfolding find_number
returns-in-22037311 c = c.query-in-22037311.ensures ∙ by_key _ c.in-22037311.is

-- OVP_ASKED
pub returns-in-5626023999 : goal.returns-in-5626023999
unfolding find_number
returns-in-5626023999 c = c.query-in-5626023999.ensures ∙ by_key _ c.in-5626023999.is

-- UVL_ASKED
pub returns-in-5726686271 : goal.returns-in-5726686271
unfolding find_number
returns-in-5726686271 c = c.query-in-5726686271.ensures ∙ by_key _ c.in-5726686271.is

-- MV_ASKED
pub returns-in-21845567 : goal.returns-in-21845567
unfolding find_number
returns-in-21845567 c = c.query-in-21845567.ensures ∙ by_key _ c.in-21845567.is

-- MC_ASKED
pub returns-in-21840703 : goal.returns-in-21840703
unfolding find_number
returns-in-21840703 c = c.query-in-21840703.ensures ∙ by_key _ c.in-21840703.is

-- OUT_ASKED
pub returns-in-5625959487 : goal.returns-in-5625959487
unfolding find_number
returns-in-5625959487 c = c.query-in-5625959487.ensures ∙ by_key _ c.in-5625959487.is

-- FLD_ASKED
pub returns-in-5474370623 : goal.returns-in-5474370623
unfolding find_number
returns-in-5474370623 c = c.query-in-5474370623.ensures ∙ by_key _ c.in-5474370623.is

-- AST_ASKED
pub returns-in-5390947391 : goal.returns-in-5390947391
unfolding find_number
returns-in-5390947391 c = c.query-in-5390947391.ensures ∙ by_key _ c.in-5390947391.is

-- RMT_ASKED
pub returns-in-5675766847 : goal.returns-in-5675766847
unfolding find_number
returns-in-5675766847 c = c.query-in-5675766847.ensures ∙ by_key _ c.in-5675766847.is

-- MODE_ASKED
pub returns-in-1431553983807 : goal.returns-in-1431553983807
unfolding find_number
returns-in-1431553983807 c = c.query-in-1431553983807.ensures ∙ by_key _ c.in-1431553983807.is

-- FLT_ASKED
pub returns-in-5474374719 : goal.returns-in-5474374719
unfolding find_number
returns-in-5474374719 c = c.query-in-5474374719.ensures ∙ by_key _ c.in-5474374719.is

-- FENA_ASKED
pub returns-in-1401322094911 : goal.returns-in-1401322094911
unfolding find_number
returns-in-1401322094911 c = c.query-in-1401322094911.ensures ∙ by_key _ c.in-1401322094911.is

-- FEVE_ASKED
pub returns-in-1401322620223 : goal.returns-in-1401322620223
unfolding find_number
returns-in-1401322620223 c = c.query-in-1401322620223.ensures ∙ by_key _ c.in-1401322620223.is

-- STT_ASKED
pub returns-in-5693002815 : goal.returns-in-5693002815
unfolding find_number
returns-in-5693002815 c = c.query-in-5693002815.ensures ∙ by_key _ c.in-5693002815.is

-- STAT_ASKED
pub returns-in-1457407480895 : goal.returns-in-1457407480895
unfolding find_number
returns-in-1457407480895 c = c.query-in-1457407480895.ensures ∙ by_key _ c.in-1457407480895.is

-- SENA_ASKED
pub returns-in-1457156669759 : goal.returns-in-1457156669759
unfolding find_number
returns-in-1457156669759 c = c.query-in-1457156669759.ensures ∙ by_key _ c.in-1457156669759.is

-- SEVE_ASKED
pub returns-in-1457157195071 : goal.returns-in-1457157195071
unfolding find_number
returns-in-1457157195071 c = c.query-in-1457157195071.ensures ∙ by_key _ c.in-1457157195071.is

-- ADR
pub returns-in-21054546 : goal.returns-in-21054546
unfolding find_number
returns-in-21054546 c = c.select.ensures ∙ by_key _ c.in-21054546.is

-- GPV
pub returns-in-21450838 : goal.returns-in-21450838
unfolding find_number
returns-in-21450838 c = all_word _ (set Pv) _ _ c.in-21450838.is refl c.set-in-21450838.ensures c.to_all.ensures

-- GPC
pub returns-in-21450819 : goal.returns-in-21450819
unfolding find_number
returns-in-21450819 c = all_word _ (set Pc) _ _ c.in-21450819.is refl c.set-in-21450819.ensures c.to_all-in-21450819.ensures

-- GOUT
pub returns-in-5491348820 : goal.returns-in-5491348820
unfolding find_number
returns-in-5491348820 c = all_word _ out _ _ c.in-5491348820.is refl c.out-in-5491348820.ensures c.to_all-in-5491348820.ensures

-- GRST
pub returns-in-5491544916 : goal.returns-in-5491544916
unfolding find_number
returns-in-5491544916 c = all_word _ rst _ _ c.in-5491544916.is refl c.bare-in-5491544916.ensures c.to_all-in-5491544916.ensures

-- any other number
pub returns-in_default : goal.returns-in_default
unfolding find_number asked_by parameter_of
returns-in_default c = rw (find_none unknown_word commands c.args.word (Unit {0}) (search rules))
